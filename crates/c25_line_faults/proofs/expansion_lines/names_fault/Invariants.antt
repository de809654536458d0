-- the names that are left have the fault of all
use Rattle.std.proofs.Common.{◌≡◌, drop}
use Rattle.c25_meaning_language.specs.DirectiveOperands.{names_in}
use Rattle.c25_expr.specs.Pieces.{operands_view}
use Rattle.c25_line_faults.specs.Reading.{fault_of}
use Rattle.c25_line_faults.proofs.expansion_lines.names_fault.Given as goal

abbrev pub invariant-loop-operand : goal.invariant-loop-operand
invariant-loop-operand l = fault_of (names_in (operands_view (drop l.operand-index l.operands))) ≡ fault_of (names_in (operands_view l.operands))
