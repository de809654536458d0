use Rattle.std.proofs.Common.{inl, refl, ◌∙◌}
use Rattle.c25_tasks.proofs.images.misused.Goals as goal

pub returns-in-Ok : goal.returns-in-Ok
returns-in-Ok c = inl (c.in-Ok.line, refl, c.in-Ok.ensures.ok ∙ c.text.ensures)
