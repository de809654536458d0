use Rattle.std.proofs.Common.{arith}
use Rattle.std.proofs.lemmas.Grind.{common_steps}
use Rattle.c25_explain.specs.Details.{value_text}
use Rattle.c25_explain.proofs.fields.push_value.Goals as goal

pub returns : goal.returns
unfolding value_text
returns c = grind (arith, common_steps)
