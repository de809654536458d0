-- Where a printed run left the code.
use Rattle.std.proofs.Common.{◌≡◌, ◌∙◌, ℕ, Bool, List, Some, None, Option, ap, subst, sym}
use Rattle.std.specs.Prelude.{IfSome}
use Rattle.std.specs.FinMap as finite
use Rattle.std.specs.Ordering.{nat_cmp}
use Rattle.c25_board.specs.declared.board.Outcome.{Outcome}
use Rattle.c25_board.specs.declared.board.Outcome.TheVariants as outcome
use Rattle.c25_chain.specs.Chain.{Given}
use Rattle.c25_chain.specs.OutcomeText.{outcome_of}
use Rattle.c25_chain.specs.Ready.{IsReady}
use Rattle.c25_chain.specs.declared.ready.Ready.{Ready}
use Rattle.c25_meaning_processor.specs.FirstState.{first_of_pages}
use Rattle.c25_meaning_processor.specs.Run.{Ending, Left, Ran, Runs}
use Rattle.c25_meaning_processor.specs.Samples.{samples_at}
use Rattle.c25_meaning_processor.specs.Signals.{signals_of}
use Rattle.c25_meaning_processor.specs.State.{State}
use Rattle.c25_meaning_processor.specs.WordStep.{WordStep}
use Rattle.c25_meaning_processor.specs.declared.schedule.ScheduleEntry.{ScheduleEntry}
use Rattle.c25_meaning_processor.specs.declared.stop.Stop.{Stop}
use Rattle.c25_run.specs.Printed.{PrintsAll}
use Rattle.c25_run.specs.Run.{LeavesFrom, LeavesRun}
use Rattle.c25_run.specs.declared.run.LeftAt.{LeftAt}

-- the step and the reason of an outcome that left the code
abbrev step_in : ℕ → Outcome → ℕ
step_in other (outcome.Left at stop) = at
step_in other outcome.Ran = other
step_in other (outcome.SinkFault at) = other

abbrev stop_in : Stop → Outcome → Stop
stop_in other (outcome.Left at stop) = stop
stop_in other outcome.Ran = other
stop_in other (outcome.SinkFault at) = other

module _ (entries : List ScheduleEntry) (n : ℕ) (s : State) where
  left_by_end : (left : LeftAt) (end : Ending) → Runs WordStep (signals_of entries) 0 n s end → outcome.Left left.step left.stop ≡ outcome_of end → LeavesFrom entries n s left
  left_by_end left (Ran t) run is = absurd (let clash = is in cc)
  left_by_end left (Left j stop t) run is = (
    t,
    subst (λ (x : ℕ). Runs WordStep (signals_of entries) 0 n s (Left x left.stop t)) (sym (ap (step_in j) is))
        (subst (λ (x : Stop). Runs WordStep (signals_of entries) 0 n s (Left j x t)) (sym (ap (stop_in stop) is)) run),
  )

  pub left_from : (when : Bool) (o : Outcome) (j : ℕ) (t : State) (old new : Option (List ℕ)) (left : Option LeftAt) → PrintsAll when (signals_of entries) n s o j t old new
      → IfSome left (λ l. o ≡ outcome.Left l.step l.stop) → IfSome left (LeavesFrom entries n s)
  left_from when o j t old new None printed is = tt
  left_from when o j t old new (Some l) printed is = left_by_end l printed.end printed.run (sym is ∙ printed.outcome_is)

pub left_run : (ready : Ready) (n : ℕ) (given : Given) → IsReady given ready → (left : Option LeftAt)
    → IfSome left (LeavesFrom ready.schedule n (first_of_pages ready.built.linked.page0.words ready.built.linked.page1.words ready.built.linked.image.marks ready.built.linked.image.run_marks (samples_at ready.samples)))
    → IfSome left (LeavesRun ready n)
left_run ready n given is left h =
    let l = is.built.linked in
    let image = ready.built.linked.image in
    subst (λ (w : finite.FinMap nat_cmp ℕ). IfSome left (LeavesFrom ready.schedule n (first_of_pages image.program w image.marks image.run_marks (samples_at ready.samples)))) l.words1
    (subst (λ (w : finite.FinMap nat_cmp ℕ). IfSome left (LeavesFrom ready.schedule n (first_of_pages w ready.built.linked.page1.words image.marks image.run_marks (samples_at ready.samples)))) l.words0 h)
