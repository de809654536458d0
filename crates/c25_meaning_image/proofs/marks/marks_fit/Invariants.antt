use Rattle.std.proofs.Common.{◌≡◌, drop}
use Rattle.c25_meaning_image.specs.Marks.{fit_from}
use Rattle.c25_meaning_image.proofs.marks.marks_fit.Given as goal

abbrev pub invariant-loop-mark : goal.invariant-loop-mark
invariant-loop-mark l = fit_from l.end (drop l.mark-index l.marks) ≡ fit_from 0 l.marks
