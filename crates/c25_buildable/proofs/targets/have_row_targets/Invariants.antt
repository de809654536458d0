-- the names in the rows so far stand for their numbers
use Rattle.std.proofs.Common.{ℕ, List, take}
use Rattle.std.specs.List.{All}
use Rattle.c25_buildable.specs.Places.{HasTarget, IsTable}
use Rattle.c25_buildable.proofs.targets.have_row_targets.Given as goal

abbrev pub invariant-loop-row : goal.invariant-loop-row
invariant-loop-row l = (ns : List (List ℕ × ℕ)) → IsTable l.table ns → All (λ r. HasTarget ns r.item) (take l.row-index l.rows)
