use Rattle.std.proofs.Common.{◌≡◌, length}
use Rattle.c25_meaning_image.specs.Marks.{run_fit, run_fit_from}
use Rattle.c25_meaning_image.proofs.marks.run_marks_fit.Given as goal

abbrev pub invariant-loop-rest : goal.invariant-loop-rest
invariant-loop-rest l = run_fit_from l.marks l.end l.rest ≡ run_fit l.marks l.run_marks

abbrev pub decreases-loop-rest : goal.decreases-loop-rest
decreases-loop-rest l = length l.rest
