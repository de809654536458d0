-- What the command file of parts says.
use Rattle.std.specs.Prelude.{ℕ, List, ◌++◌, None, Some, codes, map}
use Rattle.c25_layout.specs.declared.layout.Part.{Part}
use Rattle.c25_meaning_common.specs.Digits.{four_digits}
use Rattle.c25_meaning_linking.specs.Command.{At, CommandData, PlacingData}

-- the name of the section of a part at an address
abbrev pub section_of : ℕ → List ℕ
section_of address = codes "p" ++ four_digits address

-- the section of a part is loaded at its address on page 0, and runs where the part does
abbrev pub placing_of : Part → PlacingData
placing_of p = record { name = section_of p.address; target = At p.address; page = Some 0; run = p.run }

-- the sections of parts and nothing else
abbrev pub command_for : List Part → CommandData
command_for parts = record { entry = None; memory = None; sections = Some (map placing_of parts) }
