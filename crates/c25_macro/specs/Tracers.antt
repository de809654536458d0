-- What callers see of a tracer: where its expansion stands, which lines opened what is open, and what a step
-- answers.
use Rattle.std.specs.Prelude.{◌≡◌, ℕ, ◌<◌, List, [], Option, Some, None, Result, Ok, Err, reverse}
use Rattle.std.specs.String.{string_bytes}
use Rattle.c25_meaning_common.specs.declared.failure.Failure.{Failure}
use Rattle.c25_meaning_common.specs.declared.failure.Failure.TheVariants.{NoMemory, Fault}
use Rattle.c25_meaning_expansion.specs.Expansion.{Config, Rewriting, Goes, Finishes}
use Rattle.c25_meaning_expansion.specs.ExpansionAnswers.{expanded_line, given_by, fault_by}
use Rattle.c25_meaning_expansion.specs.ExpansionBounds.{IsBounded}
use Rattle.c25_meaning_expansion.specs.ExpansionRuns.{rewrite, start_of, weight}
use Rattle.c25_meaning_expansion.specs.Files.{Files}
use Rattle.c25_meaning_common.specs.declared.placed.FileLine.{FileLine}
use Rattle.c25_meaning_language.specs.ExpansionFault as meant
use Rattle.c25_meaning_language.specs.ExpansionFault.{ExpansionFault}
use Rattle.c25_meaning_language.specs.Value.{Table}
use Rattle.c25_meaning_expansion.specs.Trail.{trail_after}
use Rattle.c25_macro.specs.Config.{config, refused_by}
use Rattle.c25_macro.specs.Expander.{shown}
use Rattle.c25_macro.specs.declared.expander_fault.ExpanderFault.{ExpanderFault}
use Rattle.c25_macro.specs.declared.state.LineResult.{LineResult}
use Rattle.c25_macro.specs.declared.state.LineResult.TheVariants as progress
use Rattle.c25_macro.specs.declared.tracer.Step.{Step}
use Rattle.c25_macro.specs.declared.tracer.Step.TheVariants.{Given, Consumed, Finished}
use Rattle.c25_macro.specs.declared.tracer.StepFault.{StepFault}
use Rattle.c25_macro.specs.declared.tracer.StepFault.TheVariants.{Faulty, Missing}
use Rattle.c25_macro.specs.declared.tracer.Tracer.{Tracer}

-- a trace: an expansion of these files, where it stands, and the lines that opened what is open, the
-- innermost first
pub record Trace : Type 0 where
  pub files : Files
  pub at : Config
  pub trail : List (FileLine ℕ)

-- the trace that a tracer stands for
abbrev pub trace_of : Tracer → Trace
trace_of t = record { files = t.files.now; at = config t.state.value; trail = reverse t.trail.items }

-- a trace stands at this first configuration, with no line that opened anything
abbrev pub BeginsAt : Files → Option Config → Trace → Type 0
BeginsAt files start t = (start ≡ Some t.at) × (t.trail ≡ []) × (t.files ≡ files) × IsBounded t.at

-- a new tracer stands before the first line of the module of a name; None where there is no such module
abbrev pub Begins : Files → List ℕ → Option Tracer → Type 0
Begins files name None = start_of files name ≡ None
Begins files name (Some t) = BeginsAt files (start_of files name) (trace_of t)

-- the fault of the definition that the fault of a step stands for
abbrev pub fault_in : StepFault → ExpansionFault
fault_in (Faulty f) = meant.Faulty f.place.file.now f.place.line f.fault
fault_in (Missing file line name) = meant.Missing file.now line (string_bytes name)

-- a trace has gone on by one rewriting: with the same files and the trail after it, with less rewriting left,
-- and within the bounds
pub record Moved (old : Trace) (new : Trace) : Type 0 where
  pub files : new.files ≡ old.files
  pub trail : new.trail ≡ trail_after old.at new.at old.trail
  pub lighter : weight new.at < weight old.at
  pub bounded : IsBounded new.at

-- the answer of a step is this rewriting of the old trace, and leads to the new one
abbrev pub Comes : Rewriting → Trace → Result Step (Failure StepFault) → Trace → Type 0
Comes r old (Ok (Given line)) new = (given_by old.files r ≡ Some (shown line, new.at)) × Moved old new
Comes r old (Ok Consumed) new = (r ≡ Goes new.at) × Moved old new
Comes r old (Ok Finished) new = (c : Config) × (r ≡ Finishes c)
Comes r old (Err (NoMemory n)) new = Unit {0}
Comes r old (Err (Fault f)) new = (fault_by old.files r ≡ Some (fault_in f)) × (new.trail ≡ old.trail)

-- the answer of a step is the next rewriting of the old trace, and leads to the new one
abbrev pub Steps : Table → Trace → Result Step (Failure StepFault) → Trace → Type 0
Steps s old result new = Comes (rewrite old.files s old.at) old result new

-- ---- the answer of a step, by the answer of the expander's state

-- a step says what the state answered, with the name of the line's file
abbrev pub Shows : Files → LineResult → Step → Type 0
Shows files (progress.Given row) (Given line) = shown line ≡ expanded_line files row
Shows files progress.Consumed Consumed = Unit {0}
Shows files progress.Finished Finished = Unit {0}
Shows files progress step = ⊥

-- the failure of a step reports that of the state, with the name of the line's file
abbrev pub IsToldAs : Files → Failure ExpanderFault → Failure StepFault → Type 0
IsToldAs files (NoMemory n) (NoMemory m) = Unit {0}
IsToldAs files (Fault refusal) (Fault f) = fault_by files (refused_by refusal) ≡ Some (fault_in f)
IsToldAs files refusal told = ⊥
