-- the first of the operands that are left is the first of all
use Rattle.std.proofs.Common.{◌≡◌, ◌≤◌, drop}
use Rattle.c25_expr.specs.Pieces.{operands_view}
use Rattle.c25_places.specs.Values.{first_found}
use Rattle.c25_places.proofs.value_parts.first_found.Given as goal

abbrev pub invariant-loop-index : goal.invariant-loop-index
invariant-loop-index l = record {
  same : first_found l.kind l.symbols l.line l.index l.count (operands_view (drop l.index l.operands)) ≡ first_found l.kind l.symbols l.line 0 0 (operands_view l.operands);
  bound : l.count ≤ l.index;
}
