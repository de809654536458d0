-- the others so far stand there
use Rattle.std.proofs.Common.{◌≡◌, ◌++◌, take, map, filter}
use Rattle.c25_link_faults.specs.Faults.{is_other}
use Rattle.c25_link_faults.specs.View.{faults_view}
use Rattle.c25_place.specs.View.{refusal_of}
use Rattle.c25_link_faults.proofs.all.push_others.Given as goal

abbrev pub invariant-loop-other : goal.invariant-loop-other
invariant-loop-other l = map refusal_of l.faults.items ≡ map refusal_of l.fn.faults.items ++ filter (is_other (refusal_of l.first)) (faults_view (take l.other-index l.others))
