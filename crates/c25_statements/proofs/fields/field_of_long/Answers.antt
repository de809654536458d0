use Rattle.std.proofs.Common.{arith}
use Rattle.std.proofs.lemmas.Grind.{common_steps}
use Rattle.c25_statements.proofs.fields.field_of_long.Goals as goal

pub returns-in-Lrlk-default : goal.returns-in-Lrlk-default
returns-in-Lrlk-default c = grind (arith, common_steps)
