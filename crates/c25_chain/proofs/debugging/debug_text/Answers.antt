use Rattle.std.proofs.Common.{string_bytes}
use Rattle.c25_chain.proofs.Debugged.{answers_linked}
use Rattle.c25_chain.proofs.debugging.debug_text.Goals as goal

pub returns-in-Ok : goal.returns-in-Ok
returns-in-Ok c =
    answers_linked c.args.linked.now c.args.samples c.args.schedule c.args.script.now c.in_ok-script.script (string_bytes c.in-Ok.text) c.in_ok-script.ensures c.in-Ok.ensures
