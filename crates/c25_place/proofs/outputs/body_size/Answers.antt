use Rattle.std.proofs.Common.{arith}
use Rattle.std.proofs.lemmas.Grind.{common_steps}
use Rattle.c25_place.proofs.outputs.body_size.Goals as goal

pub returns-in-Uninitialised : goal.returns-in-Uninitialised
returns-in-Uninitialised c = grind (arith, common_steps)
