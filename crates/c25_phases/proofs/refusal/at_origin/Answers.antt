use Rattle.std.proofs.Common.{arith}
use Rattle.std.proofs.lemmas.Grind.{common_steps}
use Rattle.c25_phases.proofs.refusal.at_origin.Goals as goal

pub returns-in-Fault : goal.returns-in-Fault
returns-in-Fault c = grind (arith, common_steps)
