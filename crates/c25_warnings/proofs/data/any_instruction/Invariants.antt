-- one of the instructions that are left stands in the section where one of all does
use Rattle.std.proofs.Common.{◌≡◌, drop}
use Rattle.std.specs.List.{list_any}
use Rattle.c25_warnings.specs.Data.{is_instruction_in}
use Rattle.c25_warnings.proofs.data.any_instruction.Given as goal

abbrev pub invariant-loop-mark : goal.invariant-loop-mark
invariant-loop-mark l = list_any (is_instruction_in l.section) (drop l.mark-index l.marks) ≡ list_any (is_instruction_in l.section) l.marks
