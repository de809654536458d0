use Rattle.std.proofs.Common.{◌≡◌, ℕ, false, List}
use Rattle.c25_asm.specs.Trails.{Reaches}
use Rattle.c25_earlier.proofs.walk.walk.Given as goal
use Rattle.c25_macro.specs.Tracers.{trace_of}
use Rattle.c25_meaning_assembly.specs.Sections.{stands}
use Rattle.c25_meaning_expansion.specs.ExpansionBounds.{IsBounded}
use Rattle.c25_meaning_expansion.specs.ExpansionRuns.{weight}
use Rattle.c25_phases.specs.View.{progress_of}

abbrev pub invariant-loop-passed : goal.invariant-loop-passed
invariant-loop-passed l = record {
  bounded : IsBounded (trace_of l.tracer).at;
  before : stands (progress_of l.progress.value).names l.name ≡ false;
  files : (trace_of l.tracer).files ≡ (trace_of l.initial.tracer).files;
  leads : (source : List ℕ)
      → Reaches (trace_of l.initial.tracer).files source (trace_of l.initial.tracer).at (progress_of l.initial.progress.value) (trace_of l.initial.tracer).trail
      → Reaches (trace_of l.initial.tracer).files source (trace_of l.tracer).at (progress_of l.progress.value) (trace_of l.tracer).trail;
}

abbrev pub decreases-loop-passed : goal.decreases-loop-passed
decreases-loop-passed l = weight (trace_of l.tracer).at
