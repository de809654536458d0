use Rattle.std.proofs.Common.{arith}
use Rattle.std.proofs.lemmas.Grind.{common_steps}
use Rattle.c25_statements.proofs.forms.form_row.Goals as goal

pub returns-in-Short : goal.returns-in-Short
returns-in-Short c = grind (arith, common_steps)
