use Rattle.std.proofs.Common.{arith}
use Rattle.std.proofs.lemmas.Grind.{common_steps}
use Rattle.c25_board.proofs.samples.SampleLinesLineFormat.item.Goals as goal

pub returns-in_err-port-in-len2 : goal.returns-in_err-port-in-len2
returns-in_err-port-in-len2 c = grind (arith, common_steps)

pub returns-in_ok-word-in-len2 : goal.returns-in_ok-word-in-len2
returns-in_ok-word-in-len2 c = grind (arith, common_steps)
