-- The numbers and names of the linker's faults.
use Rattle.std.specs.Prelude.{ℕ, List, codes}
use Rattle.c25_meaning_common.specs.Faults.{numbered}
use Rattle.c25_meaning_linking.specs.declared.link_fault.LinkFault.{LinkFault}
use Rattle.c25_meaning_linking.specs.declared.link_fault.LinkFault.TheVariants as link

-- the number of a fault of the linker
abbrev pub link_number : LinkFault → ℕ
link_number link.Unresolved = 70
link_number link.DefinedTwice = 71
link_number link.NoRange = 72
link_number link.DoesNotFit = 73
link_number link.Overlap = 74
link_number link.RelocRange = 75
link_number link.NoEntry = 76
link_number link.BadRun = 78

-- the name of a fault of the linker
abbrev pub link_name : LinkFault → List ℕ
link_name link.Unresolved = codes "Unresolved"
link_name link.DefinedTwice = codes "DefinedTwice"
link_name link.NoRange = codes "NoRange"
link_name link.DoesNotFit = codes "DoesNotFit"
link_name link.Overlap = codes "Overlap"
link_name link.RelocRange = codes "RelocRange"
link_name link.NoEntry = codes "NoEntry"
link_name link.BadRun = codes "BadRun"

-- a fault of the linker with its number and name, as a report shows them
abbrev pub link_text : LinkFault → List ℕ
link_text f = numbered (link_number f) (link_name f)
