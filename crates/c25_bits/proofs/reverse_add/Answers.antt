use Rattle.std.proofs.Common.{arith}
use Rattle.std.proofs.lemmas.Grind.{common_steps}
use Rattle.c25_bits.proofs.Reversed.{reversed_is}
use Rattle.c25_bits.proofs.reverse_add.Goals as goal

pub returns : goal.returns
returns c = grind (arith, common_steps, reversed_is)
