use Rattle.std.proofs.Common.{arith}
use Rattle.std.proofs.lemmas.Grind.{common_steps}
use Rattle.c25_module.proofs.fits.used_with.Goals as goal

pub returns-then-file-count : goal.returns-then-file-count
returns-then-file-count c = grind (arith, common_steps)
