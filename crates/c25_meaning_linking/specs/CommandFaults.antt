-- The numbers and names of the faults of a command file.
use Rattle.std.specs.Prelude.{ℕ, List, codes}
use Rattle.c25_meaning_common.specs.Faults.{numbered}
use Rattle.c25_meaning_linking.specs.declared.command_fault.CommandFault.{CommandFault}
use Rattle.c25_meaning_linking.specs.declared.command_fault.CommandFault.TheVariants as command

-- the number of a command file's fault
abbrev pub command_number : CommandFault → ℕ
command_number command.Syntax = 60
command_number command.RangeOverlap = 61
command_number command.RangeSize = 62
command_number command.Twice = 63

-- the name of a command file's fault
abbrev pub command_name : CommandFault → List ℕ
command_name command.Syntax = codes "Syntax"
command_name command.RangeOverlap = codes "RangeOverlap"
command_name command.RangeSize = codes "RangeSize"
command_name command.Twice = codes "Twice"

-- a command file's fault with its number and name, as a report shows them
abbrev pub command_text : CommandFault → List ℕ
command_text f = numbered (command_number f) (command_name f)
