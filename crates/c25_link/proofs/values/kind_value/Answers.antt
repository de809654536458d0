use Rattle.std.proofs.Common.{arith}
use Rattle.std.proofs.lemmas.Grind.{common_steps}
use Rattle.c25_link.proofs.values.kind_value.Goals as goal

pub returns-in-InSection-clause-value : goal.returns-in-InSection-clause-value
returns-in-InSection-clause-value c = grind (arith, common_steps)
