use Rattle.std.proofs.Common.{None}
use Rattle.c25_earlier.proofs.Walking.{ended}
use Rattle.c25_earlier.proofs.walk.walk.Goals as goal
use Rattle.c25_macro.specs.Tracers.{trace_of}
use Rattle.c25_phases.specs.View.{progress_of}

pub returns-in-Ended : goal.returns-in-Ended
returns-in-Ended c =
    ended (trace_of c.args.tracer.now) (trace_of c.loop-passed.tracer) (progress_of c.args.progress.value) (progress_of c.loop-passed.progress.value) c.args.name.now None
    c.loop-passed.invariant.files c.loop-passed.invariant.leads (rw c.in-Ended.is at c.in_ok-passed.ensures)
