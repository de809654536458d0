-- the addresses so far are marked
use Rattle.c25_layout.proofs.Runs.{IsSoFar}
use Rattle.c25_layout.proofs.erased.long_runs.Given as goal

abbrev pub invariant-loop-address : goal.invariant-loop-address
invariant-loop-address l = IsSoFar l.words l.least l.marks.items l.address l.before l.end
