use Rattle.c25_debug.proofs.Within.{script_within}
use Rattle.c25_debug.proofs.script.read_script.Goals as goal

pub invariant_of-result : goal.invariant_of-result
invariant_of-result c = script_within c.args.text.now c.in_ok-commands.commands.items c.in_ok-commands.ensures
