use Rattle.std.proofs.Common.{arith}
use Rattle.std.proofs.lemmas.Grind.{common_steps}
use Rattle.c25_statements.proofs.strings.strings_in.Goals as goal

pub loop-operand-preserved : goal.loop-operand-preserved
loop-operand-preserved c = grind (arith, common_steps)

pub returns : goal.returns
returns c = grind (arith, common_steps)

pub returns-in_err-text : goal.returns-in_err-text
returns-in_err-text c = grind (arith, common_steps)
