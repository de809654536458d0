-- the names in the rows of the parts so far stand for their numbers
use Rattle.std.proofs.Common.{ℕ, List, take}
use Rattle.c25_buildable.specs.Places.{HaveTargets, IsTable}
use Rattle.c25_buildable.proofs.targets.have_targets.Given as goal

abbrev pub invariant-loop-part : goal.invariant-loop-part
invariant-loop-part l = (ns : List (List ℕ × ℕ)) → IsTable l.table ns → HaveTargets ns (take l.part-index l.parts)
