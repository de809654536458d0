use Rattle.std.proofs.Common.{arith}
use Rattle.std.proofs.lemmas.Grind.{common_steps}
use Rattle.c25_meaning_image.specs.Marks.{run_at}
use Rattle.c25_meaning_image.proofs.marks.run_at.Goals as goal

pub returns-then-mark-address : goal.returns-then-mark-address
unfolding run_at
returns-then-mark-address c = grind (arith, common_steps)

pub loop-mark-preserved : goal.loop-mark-preserved
unfolding run_at
loop-mark-preserved c = grind (arith, common_steps)
