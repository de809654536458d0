use Rattle.std.proofs.Common.{arith}
use Rattle.std.proofs.lemmas.Grind.{common_steps, elements}
use Rattle.c25_meaning_language.specs.Forms.{jumping}
use Rattle.c25_statements.proofs.shapes.jumping.Goals as goal

pub returns-else-others : goal.returns-else-others
unfolding jumping
returns-else-others c = grind (arith, common_steps)

pub returns-in_err-change : goal.returns-in_err-change
unfolding jumping
returns-in_err-change c = grind (arith, common_steps)

pub returns-in_err-counted : goal.returns-in_err-counted
unfolding jumping
returns-in_err-counted c = grind (arith, common_steps)

pub returns-then-others : goal.returns-then-others
unfolding jumping
returns-then-others c = grind (arith, elements)
