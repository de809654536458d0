use Rattle.std.proofs.Common.{arith}
use Rattle.std.proofs.lemmas.Grind.{common_steps}
use Rattle.c25_statements.proofs.forms.number_beside.Goals as goal

pub returns-in-Direct : goal.returns-in-Direct
returns-in-Direct c = grind (arith, common_steps)
