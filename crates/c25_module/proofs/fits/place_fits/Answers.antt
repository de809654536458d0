use Rattle.std.proofs.Common.{arith}
use Rattle.std.proofs.lemmas.Grind.{common_steps}
use Rattle.c25_module.proofs.fits.place_fits.Goals as goal

pub returns-in-InSection : goal.returns-in-InSection
returns-in-InSection c = grind (arith, common_steps)
