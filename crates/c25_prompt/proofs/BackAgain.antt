-- A run from the first state again, up to a step that was done before.
use Rattle.std.proofs.Common.{◌≡◌, ℕ, ◌+◌, ◌-◌, List, subst, arith}
use Rattle.c25_board.specs.Run.{IsRun}
use Rattle.c25_board.specs.declared.board.Outcome.{Outcome}
use Rattle.c25_board.specs.declared.board.Outcome.TheVariants as outcome
use Rattle.c25_meaning_processor.specs.Run.{Ending, Left, Ran, Reaches, Runs, Signals}
use Rattle.c25_meaning_processor.specs.Signals.{signals_of}
use Rattle.c25_meaning_processor.specs.State.{State}
use Rattle.c25_meaning_processor.specs.WordStep.{WordStep}
use Rattle.c25_meaning_processor.specs.declared.schedule.ScheduleEntry.{ScheduleEntry}
use Rattle.c25_meaning_processor.specs.declared.stop.Stop.{Stop}
use Rattle.c25_run_laws.proofs.Joined.{split}
use Rattle.c25_prompt.specs.Back.{CanReach}
use Rattle.c25_prompt.specs.Session.{IsOnRun}
use Rattle.c25_prompt.proofs.Went.{not_failed}

-- a run of the words has one end at most
abbrev pub EndsOnce : Type 0
EndsOnce = (signals : Signals) (k n : ℕ) (s : State) (e f : Ending) → Runs WordStep signals k n s e → Runs WordStep signals k n s f → e ≡ f

pub ran_not_left : (t u : State) (j : ℕ) (stop : Stop) → Ran t ≡ Left j stop u → ⊥
ran_not_left t u j stop e = absurd (cc)

-- fewer steps than were done can be done
pub can_reach : (schedule entries : List ScheduleEntry) (first s : State) (k n : ℕ) → IsOnRun schedule first entries k s → CanReach schedule (k - n) first
can_reach schedule entries first s k n (same, reached) =
    let whole : k - n + (k - (k - n)) ≡ k = omega arith in
    let here : Reaches WordStep (signals_of schedule) 0 k first s = subst (λ (es : List ScheduleEntry). Reaches WordStep (signals_of es) 0 k first s) same reached in
    (k - (k - n), s, rw whole here)

module _ (once : EndsOnce) (schedule : List ScheduleEntry) (first : State) (n : ℕ) (can : CanReach schedule n first) where
  -- all steps are done
  all_done : (j before now : ℕ) (t : State) (o : Outcome) → IsRun (signals_of schedule) 0 n first o j t before now → now ≡ 0 → Reaches WordStep (signals_of schedule) 0 n first t × (j ≡ n)
  all_done j before now t outcome.Ran (reached, at, same) none = (reached, omega arith)
  all_done j before now t (outcome.Left at stop) (left, there, same) none =
      let parts = split WordStep (signals_of schedule) 0 n can.0 first can.1 can.2 in
      absurd (ran_not_left parts.0 t at stop (once (signals_of schedule) 0 n first (Ran parts.0) (Left at stop t) parts.1 left))
  all_done j before now t (outcome.SinkFault at) (done, few, at_is, reached, there, failed, puts) none = absurd (not_failed before now failed none)

  -- a board that began at the first state has done all steps
  pub done_again : (entries : List ScheduleEntry) (k j before now : ℕ) (s t : State) (o : Outcome) → entries ≡ schedule → k ≡ 0 → s ≡ first
      → IsRun (signals_of entries) k n s o j t before now → now ≡ 0 → Reaches WordStep (signals_of schedule) 0 n first t × (j ≡ n)
  done_again entries k j before now s t o same_schedule begun same_state run none =
      all_done j before now t o
      (subst (λ (x : State). IsRun (signals_of schedule) 0 n x o j t before now) same_state
      (subst (λ (x : ℕ). IsRun (signals_of schedule) x n s o j t before now) begun
      (subst (λ (x : List ScheduleEntry). IsRun (signals_of x) k n s o j t before now) same_schedule run))) none
