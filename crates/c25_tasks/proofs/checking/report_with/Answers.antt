use Rattle.std.proofs.Common.{inl, refl}
use Rattle.c25_tasks.proofs.checking.report_with.Goals as goal

pub returns-in-Ok : goal.returns-in-Ok
returns-in-Ok c = inl ((c.in-Ok.line, refl, c.in-Ok.ensures.first), c.in-Ok.ensures.second)
