use Rattle.std.proofs.Common.{arith}
use Rattle.std.proofs.lemmas.Grind.{common_steps}
use Rattle.c25_meaning_language.specs.Statement.{number_in}
use Rattle.c25_statements.proofs.fields.number_in.Goals as goal

pub returns-in-Byte : goal.returns-in-Byte
unfolding number_in
returns-in-Byte c = grind (arith, common_steps)
