use Rattle.std.proofs.Common.{◌≡◌, ◌++◌, drop, map}
use Rattle.c25_meaning_language.specs.Operands.{written_of}
use Rattle.c25_expr.specs.Pieces.{operands_view}
use Rattle.c25_statements.proofs.operations.kinds_of.Given as goal

abbrev pub invariant-loop-operand : goal.invariant-loop-operand
invariant-loop-operand l = l.kinds.items ++ map written_of (operands_view (drop l.operand-index l.operands)) ≡ map written_of (operands_view l.operands)
