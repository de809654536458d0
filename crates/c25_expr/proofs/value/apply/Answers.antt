use Rattle.std.proofs.Common.{arith}
use Rattle.std.proofs.lemmas.Grind.{common_steps}
use Rattle.c25_expr.proofs.value.apply.Goals as goal

pub returns-in-Binary : goal.returns-in-Binary
returns-in-Binary c = grind (arith, common_steps)
