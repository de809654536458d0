use Rattle.std.proofs.Common.{◌≡◌, drop}
use Rattle.c25_meaning_assembly.specs.AssemblyLine.{all_expressions}
use Rattle.c25_expr.specs.Pieces.{operands_view}
use Rattle.c25_statements.proofs.operands.all_expressions.Given as goal

abbrev pub invariant-loop-operand : goal.invariant-loop-operand
invariant-loop-operand l = all_expressions (operands_view (drop l.operand-index l.operands)) ≡ all_expressions (operands_view l.operands)
