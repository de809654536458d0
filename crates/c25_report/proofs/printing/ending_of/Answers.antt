use Rattle.std.proofs.Common.{arith}
use Rattle.std.proofs.lemmas.Grind.{common_steps}
use Rattle.c25_report.proofs.printing.ending_of.Goals as goal

pub returns-in-Left : goal.returns-in-Left
returns-in-Left c = grind (arith, common_steps)
