use Rattle.std.proofs.Common.{inl, refl}
use Rattle.c25_tasks.proofs.Imaged.{ok_text}
use Rattle.c25_tasks.proofs.images.report_line.Goals as goal

pub returns-in-Ok : goal.returns-in-Ok
returns-in-Ok c = λ text is. inl ((c.in-Ok.line, refl, ok_text c.args.line c.in-Ok.line text c.in-Ok.is is), refl)
