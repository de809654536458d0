-- What a rewriting gives, as the step of a trace.
use Rattle.std.proofs.Common.{◌≡◌, Some, Result, Ok, Err, IsErrAnd, ap, sym, ◌∙◌}
use Rattle.c25_meaning_common.specs.Results.{IsNoMemory}
use Rattle.c25_meaning_common.specs.declared.failure.Failure.{Failure}
use Rattle.c25_meaning_common.specs.declared.failure.Failure.TheVariants.{NoMemory, Fault}
use Rattle.c25_meaning_expansion.proofs.ExpansionBounded.{bounded_giving, bounded_going}
use Rattle.c25_meaning_expansion.proofs.ExpansionFalls.{falls_giving, falls_going}
use Rattle.c25_meaning_expansion.specs.Expansion.{Goes, Gives}
use Rattle.c25_meaning_expansion.specs.ExpansionAnswers.{given_by, fault_by}
use Rattle.c25_meaning_expansion.specs.ExpansionBounds.{IsBounded}
use Rattle.c25_meaning_expansion.specs.ExpansionRuns.{rewrite}
use Rattle.c25_meaning_expansion.specs.Rows.{Row}
use Rattle.c25_meaning_language.specs.Value.{Table}
use Rattle.c25_meaning_expansion.specs.Trail.{trail_after}
use Rattle.c25_macro.specs.Config.{Follows, Refuses, refused_by}
use Rattle.c25_macro.specs.Tracers.{IsToldAs, Moved, Shows, Steps, Trace, fault_in}
use Rattle.c25_macro.specs.declared.expander_fault.ExpanderFault.{ExpanderFault}
use Rattle.c25_macro.specs.declared.state.LineResult.{LineResult}
use Rattle.c25_macro.specs.declared.state.LineResult.TheVariants as progress
use Rattle.c25_macro.specs.declared.tracer.Step.{Step}
use Rattle.c25_macro.specs.declared.tracer.Step.TheVariants as step
use Rattle.c25_macro.specs.declared.tracer.StepFault.{StepFault}

module _ (s : Table) (old new : Trace) (files : new.files ≡ old.files) where
  consumed : IsBounded old.at → new.trail ≡ trail_after old.at new.at old.trail → rewrite old.files s old.at ≡ Goes new.at → Moved old new
  consumed bounded trail e = record {
    files = files;
    trail = trail;
    lighter = (falls_going old.files s old.at new.at e).weighs_less;
    bounded = bounded_going old.files s old.at new.at bounded e;
  }

  gave : (row : Row) → IsBounded old.at → new.trail ≡ trail_after old.at new.at old.trail → rewrite old.files s old.at ≡ Gives row new.at → Moved old new
  gave row bounded trail e = record {
    files = files;
    trail = trail;
    lighter = (falls_giving old.files s old.at new.at row e).weighs_less;
    bounded = bounded_giving old.files s old.at new.at row bounded e;
  }

  -- the rewriting gives a step
  pub steps : (p : LineResult) (answer : Step) → IsBounded old.at → new.trail ≡ trail_after old.at new.at old.trail → Follows (rewrite old.files s old.at) (Ok p) new.at
      → Shows old.files p answer → Steps s old (Ok answer) new
  steps (progress.Given row) (step.Given line) bounded trail e is = (ap (given_by old.files) e ∙ ap (λ l. Some (l, new.at)) (sym is), gave row bounded trail e)
  steps (progress.Given row) step.Consumed bounded trail e is = absurd is
  steps (progress.Given row) step.Finished bounded trail e is = absurd is
  steps progress.Consumed (step.Given line) bounded trail e is = absurd is
  steps progress.Consumed step.Consumed bounded trail e is = (e, consumed bounded trail e)
  steps progress.Consumed step.Finished bounded trail e is = absurd is
  steps progress.Finished (step.Given line) bounded trail e is = absurd is
  steps progress.Finished step.Consumed bounded trail e is = absurd is
  steps progress.Finished step.Finished bounded trail e is = (new.at, e)

  -- the rewriting fails
  pub stops : (refusal : Failure ExpanderFault) (answer : Failure StepFault) → new.trail ≡ old.trail → Refuses (rewrite old.files s old.at) refusal
      → IsToldAs old.files refusal answer → Steps s old (Err answer) new
  stops (NoMemory n) (NoMemory m) trail e is = tt
  stops (NoMemory n) (Fault f) trail e is = absurd is
  stops (Fault r) (NoMemory m) trail e is = absurd is
  stops (Fault r) (Fault f) trail e is = (ap (fault_by old.files) e ∙ is, trail)

-- memory ran out
pub short : (s : Table) (old new : Trace) (answer : Result Step (Failure StepFault)) → IsErrAnd answer IsNoMemory → Steps s old answer new
short s old new (Ok x) h = absurd h
short s old new (Err (NoMemory n)) h = tt
short s old new (Err (Fault f)) h = absurd h
