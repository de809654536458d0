-- the first of the operands that are left is the first of all
use Rattle.std.proofs.Common.{◌≡◌, drop}
use Rattle.c25_expr.specs.Pieces.{operands_view}
use Rattle.c25_places.specs.Refused.{first_refused}
use Rattle.c25_places.proofs.refused.first_refused.Given as goal

abbrev pub invariant-loop-index : goal.invariant-loop-index
invariant-loop-index l = first_refused l.kind l.operation l.index (operands_view (drop l.index l.operands)) ≡ first_refused l.kind l.operation 0 (operands_view l.operands)
