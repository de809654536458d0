use Rattle.std.proofs.Common.{arith}
use Rattle.std.proofs.lemmas.Grind.{common_steps}
use Rattle.c25_expr.proofs.builder.Builder.settle.Goals as goal

pub loop-operator-preserved : goal.loop-operator-preserved
loop-operator-preserved c = grind (arith, common_steps)

pub returns-in_default : goal.returns-in_default
returns-in_default c = grind (arith, common_steps)

pub returns-in_default-2-clause-ok : goal.returns-in_default-2-clause-ok
returns-in_default-2-clause-ok c = grind (arith, common_steps)
