use Rattle.std.proofs.Common.{arith}
use Rattle.std.proofs.lemmas.Grind.{common_steps}
use Rattle.c25_module.proofs.fits.section_fits.Goals as goal

pub returns-then-not-has_section : goal.returns-then-not-has_section
returns-then-not-has_section c = grind (arith, common_steps)
