use Rattle.std.proofs.Common.{ap, ◌∙◌}
use Rattle.c25_earlier.proofs.Walking.{begun}
use Rattle.c25_earlier.proofs.walk.first_line.Goals as goal
use Rattle.c25_macro.specs.Tracers.{trace_of}
use Rattle.c25_phases.specs.View.{progress_of}

pub returns : goal.returns
returns c =
    begun c.args.files.now c.args.source.now c.args.name.now (trace_of c.in-Some.tracer) (progress_of c.in_ok-progress.progress.value) c.walk.result
    (rw c.in-Some.is at c.in_ok-tracer.ensures) (ap progress_of c.in_ok-progress.ensures.ok ∙ c.in_ok-new.ensures) c.walk.ensures
