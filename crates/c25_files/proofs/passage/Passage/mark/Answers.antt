use Rattle.std.proofs.Common.{arith}
use Rattle.std.proofs.lemmas.Grind.{common_steps}
use Rattle.c25_files.proofs.passage.Passage.mark.Goals as goal

pub invariant_of-self : goal.invariant_of-self
invariant_of-self c = grind (arith, common_steps)

pub returns-clause-passed : goal.returns-clause-passed
returns-clause-passed c = grind (arith, common_steps)
