use Rattle.std.proofs.Common.{arith}
use Rattle.std.proofs.lemmas.Grind.{common_steps}
use Rattle.c25_chain.proofs.chain.samples_in.Goals as goal

pub returns-in-Ok : goal.returns-in-Ok
returns-in-Ok c = grind (arith, common_steps)

pub returns-in-Err-Fault : goal.returns-in-Err-Fault
returns-in-Err-Fault c = grind (arith, common_steps)
