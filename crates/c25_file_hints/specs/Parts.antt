-- The lines of the parts of a command file that come once.
use Rattle.std.specs.Prelude.{ℕ, List, ◌++◌, Option, Some, None, codes, Result, Ok, Err}
use Rattle.c25_meaning_common.specs.declared.placed.Placed.{Placed}
use Rattle.c25_meaning_linking.specs.Command.{CommandData}
use Rattle.c25_meaning_linking.specs.CommandText.{command_of}
use Rattle.c25_meaning_linking.specs.declared.command_fault.CommandFault.{CommandFault}
use Rattle.c25_meaning_linking.specs.declared.command_fault.CommandFault.TheVariants.{Twice}
use Rattle.c25_file_hints.specs.declared.parts.Part.{Part}
use Rattle.c25_file_hints.specs.declared.parts.Part.TheVariants.{Entry, Memory, Sections}

-- the shortest text of a part, with a blank after it
abbrev pub front_of : Part → List ℕ
front_of Entry = codes "-e X "
front_of Memory = codes "MEMORY { } "
front_of Sections = codes "SECTIONS { } "

-- the line of a fault, where it is that a part comes twice
abbrev pub twice_at : CommandFault → ℕ → Option ℕ
twice_at Twice line = Some line
twice_at _ line = None

-- the line in which a command is refused since a part comes twice, if it is
abbrev pub twice_line : Result CommandData (Placed ℕ CommandFault) → Option ℕ
twice_line (Ok command) = None
twice_line (Err first) = twice_at first.fault first.place

-- the line in which this part of a command begins: with another one in front of the text, which begins no line of its
-- own, it is refused there as the second
abbrev pub part_line : List ℕ → Part → Option ℕ
part_line text part = twice_line (command_of (front_of part ++ text))
