use Rattle.std.proofs.Common.{arith}
use Rattle.std.proofs.lemmas.Grind.{common_steps}
use Rattle.c25_place.proofs.missing.missing_for.Goals as goal

pub returns-in-At : goal.returns-in-At
returns-in-At c = grind (arith, common_steps)
