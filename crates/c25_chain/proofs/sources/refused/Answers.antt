use Rattle.std.proofs.Common.{arith}
use Rattle.std.proofs.lemmas.Grind.{common_steps}
use Rattle.c25_chain.proofs.sources.refused.Goals as goal

pub returns-in-Line : goal.returns-in-Line
returns-in-Line c = grind (arith, common_steps)
