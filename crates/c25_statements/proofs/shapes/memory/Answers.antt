use Rattle.std.proofs.Common.{arith}
use Rattle.std.proofs.lemmas.Grind.{elements}
use Rattle.c25_meaning_language.specs.Forms.{memory}
use Rattle.c25_statements.proofs.shapes.memory.Goals as goal

pub returns-else-others : goal.returns-else-others
unfolding memory
returns-else-others c = grind (arith, elements)

pub returns-in_err-addr : goal.returns-in_err-addr
unfolding memory
returns-in_err-addr c = grind (arith, elements)

pub returns-in_err-counted : goal.returns-in_err-counted
unfolding memory
returns-in_err-counted c = grind (arith, elements)

pub returns-then-others : goal.returns-then-others
unfolding memory
returns-then-others c = grind (arith, elements)
