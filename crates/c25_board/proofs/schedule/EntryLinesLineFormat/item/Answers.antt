use Rattle.std.proofs.Common.{arith}
use Rattle.std.proofs.lemmas.Grind.{common_steps}
use Rattle.c25_board.proofs.schedule.EntryLinesLineFormat.item.Goals as goal

pub returns-else-step-last_step : goal.returns-else-step-last_step
returns-else-step-last_step c = grind (arith, common_steps)
