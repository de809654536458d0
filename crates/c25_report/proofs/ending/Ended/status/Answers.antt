use Rattle.std.proofs.Common.{arith}
use Rattle.std.proofs.lemmas.Grind.{common_steps}
use Rattle.c25_report.proofs.ending.Ended.status.Goals as goal

pub returns-in-NoTask : goal.returns-in-NoTask
returns-in-NoTask c = grind (arith, common_steps)
