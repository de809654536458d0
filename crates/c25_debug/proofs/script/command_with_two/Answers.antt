use Rattle.std.proofs.Common.{arith}
use Rattle.std.proofs.lemmas.Grind.{common_steps}
use Rattle.c25_meaning_processor.specs.Script.{command_with_two}
use Rattle.c25_debug.proofs.script.command_with_two.Goals as goal

pub returns-in_ok-address : goal.returns-in_ok-address
unfolding command_with_two
returns-in_ok-address c = grind (arith, common_steps)
