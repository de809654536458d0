use Rattle.std.proofs.Common.{rules}
use Rattle.c25_debug.proofs.session.Session.new.Goals as goal

pub returns-clause-breakpoints : goal.returns-clause-breakpoints
returns-clause-breakpoints c = search rules
