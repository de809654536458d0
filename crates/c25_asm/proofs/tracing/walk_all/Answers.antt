use Rattle.std.proofs.Common.{ap, ◌∙◌}
use Rattle.c25_phases.specs.View.{progress_of}
use Rattle.c25_asm.proofs.FromStart.{none_come}
use Rattle.c25_asm.proofs.tracing.walk_all.Goals as goal

pub walk-requires-clause-before : goal.walk-requires-clause-before
walk-requires-clause-before c = none_come c.args.sought (progress_of c.in_ok-progress.progress.value) (ap progress_of c.in_ok-progress.ensures.ok ∙ c.in_ok-empty.ensures)
