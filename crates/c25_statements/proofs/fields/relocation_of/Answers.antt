use Rattle.std.proofs.Common.{arith}
use Rattle.std.proofs.lemmas.Grind.{common_steps}
use Rattle.c25_statements.proofs.fields.relocation_of.Goals as goal

pub returns-in-Word16 : goal.returns-in-Word16
returns-in-Word16 c = grind (arith, common_steps)
