use Rattle.std.proofs.Common.{arith}
use Rattle.std.proofs.lemmas.Grind.{common_steps}
use Rattle.c25_debug.proofs.script.Script.as_slice.Goals as goal

pub returns-clause-commands : goal.returns-clause-commands
returns-clause-commands c = grind (arith, common_steps)
