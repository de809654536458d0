use Rattle.std.proofs.Common.{arith}
use Rattle.std.proofs.lemmas.Grind.{common_steps}
use Rattle.c25_statements.proofs.operations.form_in.Goals as goal

pub returns-in-empty : goal.returns-in-empty
returns-in-empty c = grind (arith, common_steps)

pub returns-in-len1 : goal.returns-in-len1
returns-in-len1 c = grind (arith, common_steps)

pub returns-in-len2 : goal.returns-in-len2
returns-in-len2 c = grind (arith, common_steps)
