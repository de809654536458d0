use Rattle.std.proofs.Common.{rules}
use Rattle.c25_debug.proofs.session.Session.command.Goals as goal

pub returns-clause-answer : goal.returns-clause-answer
returns-clause-answer c = search rules
