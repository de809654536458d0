-- Single steps that are done again, from the first state on.
use Rattle.std.proofs.Common.{◌≡◌, ℕ, suc, ◌+◌, List, [], ◌∷◌, Ok, refl, sym, ap, subst, ◌∙◌, arith}
use Rattle.c25_board.specs.Run.{IsRun}
use Rattle.c25_board.specs.declared.board.Outcome.{Outcome}
use Rattle.c25_board.specs.declared.board.Outcome.TheVariants as outcome
use Rattle.c25_meaning_processor.specs.Goes.{is_met}
use Rattle.c25_meaning_processor.specs.Run.{Left, Ran, Reaches}
use Rattle.c25_meaning_processor.specs.Signals.{signals_of}
use Rattle.c25_meaning_processor.specs.State.{State}
use Rattle.c25_meaning_processor.specs.WordStep.{WordStep}
use Rattle.c25_meaning_processor.specs.declared.schedule.ScheduleEntry.{ScheduleEntry}
use Rattle.c25_prompt.specs.Back.{CanReach}
use Rattle.c25_prompt.specs.Past.{Meets, one_if}
use Rattle.c25_prompt.specs.Rewound.{IsStep}
use Rattle.c25_prompt.specs.Session.{IsOnRun}
use Rattle.c25_prompt.proofs.BackAgain.{EndsOnce, ran_not_left}
use Rattle.c25_prompt.proofs.OnTheRun.{more}
use Rattle.c25_prompt.proofs.Went.{not_failed}

module _ (once : EndsOnce) (schedule entries : List ScheduleEntry) (first s : State) (k : ℕ) (on : IsOnRun schedule first entries k s) (can : CanReach schedule (k + 1) first) where
  -- a step that can be done is done
  pub one_done : (j before now : ℕ) (t : State) (o : Outcome) → IsRun (signals_of entries) k 1 s o j t before now → now ≡ 0 → IsStep (signals_of entries) k s j t
  one_done j before now t outcome.Ran ((u, same, steps), at, kept) none =
      let here : k + 0 ≡ k = omega arith in
      record {
        steps =
            subst (λ (x : State). WordStep ((signals_of entries).lines k) ((signals_of entries).bio k) x (Ok t)) (sym same)
            (subst (λ (x : ℕ). WordStep ((signals_of entries).lines x) ((signals_of entries).bio x) u (Ok t)) here steps);
        at = at;
      }
  one_done j before now t (outcome.Left at stop) (left, there, kept) none =
      let few = left.before in
      let is = left.at in
      let reached = more WordStep (signals_of entries) k left.done (k + left.done) first s t on.1 left.reached refl in
      let whole = subst (λ (es : List ScheduleEntry). Reaches WordStep (signals_of es) 0 (k + 1 + can.0) first can.1) (sym on.0) can.2 in
      absurd (ran_not_left can.1 t at stop (once (signals_of entries) 0 (k + 1 + can.0) first (Ran can.1) (Left at stop t) whole
      (record { done = k + left.done; before = omega arith; at = omega arith; reached = reached; stops = left.stops })))
  one_done j before now t (outcome.SinkFault at) (done, few, at_is, reached, there, failed, puts) none = absurd (not_failed before now failed none)

-- a board is on the run after one more step, too
pub on_again : (schedule before after : List ScheduleEntry) (first s t : State) (k j : ℕ) → IsOnRun schedule first before k s → after ≡ before → IsStep (signals_of before) k s j t → IsOnRun schedule first after j t
on_again schedule before after first s t k j on same step =
    let here : 0 + k ≡ k = omega arith in
    let there : j ≡ suc k = step.at ∙ omega arith in
    let steps = subst (λ (x : ℕ). WordStep ((signals_of before).lines x) ((signals_of before).bio x) s (Ok t)) (sym here) step.steps in
    let reached : Reaches WordStep (signals_of before) 0 j first t = subst (λ (x : ℕ). Reaches WordStep (signals_of before) 0 x first t) (sym there) (s, on.1, steps) in
    (same ∙ on.0, subst (λ (es : List ScheduleEntry). Reaches WordStep (signals_of es) 0 j first t) (sym same) reached)

-- how often a breakpoint is met in one step more
pub met_more : (schedule before : List ScheduleEntry) (address : ℕ) (first s t : State) (n k j count next : ℕ) → before ≡ schedule → k ≡ n → Meets WordStep (signals_of schedule) address 0 n first count s → IsStep (signals_of before) k s j t
    → next ≡ one_if (is_met (address ∷ []) t) → Meets WordStep (signals_of schedule) address 0 (n + 1) first (count + next) t
met_more schedule before address first s t n k j count next same at met step is =
    let one : n + 1 ≡ suc n = omega arith in
    let here : k ≡ 0 + n = at ∙ omega arith in
    let steps = subst (λ (x : ℕ). WordStep ((signals_of schedule).lines x) ((signals_of schedule).bio x) s (Ok t)) here (subst (λ (es : List ScheduleEntry). WordStep ((signals_of es).lines k) ((signals_of es).bio k) s (Ok t)) same step.steps) in
    subst (λ (x : ℕ). Meets WordStep (signals_of schedule) address 0 x first (count + next) t) (sym one) (s, count, met, steps, ap (λ (x : ℕ). count + x) is)

-- no step is done
pub met_none : (schedule : List ScheduleEntry) (address : ℕ) (first s : State) → s ≡ first → Meets WordStep (signals_of schedule) address 0 0 first 0 s
met_none schedule address first s same = (sym same, refl)
