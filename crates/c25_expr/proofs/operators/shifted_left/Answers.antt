use Rattle.std.proofs.Common.{arith}
use Rattle.std.proofs.lemmas.Grind.{common_steps}
use Rattle.c25_expr.proofs.operators.shifted_left.Goals as goal

pub returns : goal.returns
returns c = grind (arith, common_steps)

pub overflow_mul-from : goal.overflow_mul-from
overflow_mul-from c = grind (arith, common_steps)
