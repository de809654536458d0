use Rattle.c25_meaning_debugger.proofs.Alike.{script_alike}
use Rattle.c25_meaning_debugger.proofs.laws.debuggers_answer_alike.Goals as goal

pub returns : goal.returns
returns c = script_alike
