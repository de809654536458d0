use Rattle.std.proofs.Common.{arith}
use Rattle.std.proofs.lemmas.Grind.{common_steps}
use Rattle.c25_explain.proofs.texts.object_explanation.Goals as goal

pub returns-in-BadTag : goal.returns-in-BadTag
returns-in-BadTag c = grind (arith, common_steps)
