use Rattle.std.proofs.Common.{arith}
use Rattle.std.proofs.lemmas.Grind.{common_steps}
use Rattle.c25_meaning_instructions.proofs.insn.Insn.mnemonic.Goals as goal

pub returns-in-Port : goal.returns-in-Port
returns-in-Port c = grind (arith, common_steps)
