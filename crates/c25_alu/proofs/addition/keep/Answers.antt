use Rattle.std.proofs.Common.{arith}
use Rattle.std.proofs.lemmas.Grind.{common_steps}
use Rattle.c25_alu.proofs.addition.keep.Goals as goal

pub returns : goal.returns
returns c = grind (arith, common_steps)

pub returns-then-total : goal.returns-then-total
returns-then-total c = grind (arith, common_steps)
