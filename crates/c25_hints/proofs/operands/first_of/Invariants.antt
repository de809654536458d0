-- the remark on the operands that are left is that on all
use Rattle.std.proofs.Common.{◌≡◌, drop}
use Rattle.c25_expr.specs.Pieces.{operands_view}
use Rattle.c25_hints.specs.Operands.{of_operands}
use Rattle.c25_hints.proofs.operands.first_of.Given as goal

abbrev pub invariant-loop-operand : goal.invariant-loop-operand
invariant-loop-operand l = of_operands (operands_view (drop l.operand-index l.operands)) ≡ of_operands (operands_view l.operands)
