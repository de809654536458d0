use Rattle.std.proofs.Common.{arith}
use Rattle.std.proofs.lemmas.Grind.{common_steps}
use Rattle.c25_link.proofs.fields.field_number.Goals as goal

pub returns-in-Low7 : goal.returns-in-Low7
returns-in-Low7 c = grind (arith, common_steps)
