use Rattle.std.proofs.Common.{arith}
use Rattle.std.proofs.lemmas.Grind.{common_steps}
use Rattle.c25_isa.proofs.size_of.Goals as goal

pub returns-in-Jump : goal.returns-in-Jump
returns-in-Jump c = grind (arith, common_steps)
