use Rattle.std.proofs.Common.{◌≡◌, drop}
use Rattle.c25_meaning_image.specs.Marks.{run_at}
use Rattle.c25_meaning_image.proofs.marks.run_at.Given as goal

abbrev pub invariant-loop-mark : goal.invariant-loop-mark
invariant-loop-mark l = run_at (drop l.mark-index l.run_marks) l.address ≡ run_at l.run_marks l.address
