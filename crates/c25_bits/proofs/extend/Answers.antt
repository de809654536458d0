use Rattle.std.proofs.Common.{arith}
use Rattle.std.proofs.lemmas.Grind.{common_steps}
use Rattle.c25_bits.proofs.extend.Goals as goal

pub returns-then-word-ge32768 : goal.returns-then-word-ge32768
returns-then-word-ge32768 c = grind (arith, common_steps)
