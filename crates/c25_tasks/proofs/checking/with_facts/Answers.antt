use Rattle.std.proofs.Common.{inl, refl, string_bytes}
use Rattle.c25_tasks.proofs.checking.with_facts.Goals as goal

pub returns-in-Ok : goal.returns-in-Ok
returns-in-Ok c = inl (string_bytes c.args.report.note, (refl, refl), c.in-Ok.ensures.bytes)
