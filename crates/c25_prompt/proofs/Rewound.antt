-- Where a run from the first state on last stopped, run after run.
use Rattle.std.proofs.Common.{◌≡◌, ℕ, ◌+◌, ◌-◌, ◌<◌, ◌≤◌, true, false, List, Ok, Err, Result, refl, sym, subst, ◌∙◌, arith}
use Rattle.std.specs.Prelude.{IfOk, string_bytes}
use Rattle.c25_debug.specs.declared.steps.Answer.{Answer}
use Rattle.c25_meaning_processor.specs.Run.{Left, Ran, Reaches}
use Rattle.c25_meaning_processor.specs.Signals.{signals_of}
use Rattle.c25_meaning_processor.specs.State.{State}
use Rattle.c25_meaning_processor.specs.WordStep.{WordStep}
use Rattle.c25_meaning_processor.specs.declared.schedule.ScheduleEntry.{ScheduleEntry}
use Rattle.c25_meaning_processor.specs.declared.stop.Stop.{Stop}
use Rattle.c25_prompt.specs.Back.{CanReach}
use Rattle.c25_prompt.specs.Past.{IsStop, StopsLast}
use Rattle.c25_prompt.specs.Prompt.{BacksTo, PromptPoint}
use Rattle.c25_prompt.specs.Rewound.{IsLastStop}
use Rattle.c25_prompt.specs.Runs.{Goes, Passes, end_text, may_go_on}
use Rattle.c25_prompt.specs.Runs as runs
use Rattle.c25_prompt.specs.Session.{IsOnRun}
use Rattle.c25_prompt.specs.declared.ended.Ended.{Ended}
use Rattle.c25_prompt.specs.declared.ended.Ended.TheVariants as ended
use Rattle.c25_prompt.specs.declared.rewinding.Stopped.{Stopped}
use Rattle.c25_prompt.proofs.BackAgain.{EndsOnce, ran_not_left}
use Rattle.c25_prompt.proofs.OnTheRun.{more, passed, went_on}
use Rattle.c25_prompt.proofs.OneAnswer.{one_result}
use Rattle.c25_prompt.proofs.OneEnd.{one_reached}
use Rattle.c25_prompt.proofs.Went.{ran_is}

true_not_false : true ≡ false → ⊥
true_not_false e = absurd (cc)

-- the steps that were done can be done
pub can_reach_here : (schedule entries : List ScheduleEntry) (first s : State) (k : ℕ) → IsOnRun schedule first entries k s → CanReach schedule k first
can_reach_here schedule entries first s k (same, reached) =
    let whole : k + 0 ≡ k = omega arith in
    let here : Reaches WordStep (signals_of schedule) 0 k first s = subst (λ (es : List ScheduleEntry). Reaches WordStep (signals_of es) 0 k first s) same reached in
    (0, s, rw whole here)

-- fewer steps can be done too
pub can_reach_fewer : (schedule : List ScheduleEntry) (first : State) (m n : ℕ) → m ≤ n → CanReach schedule n first → CanReach schedule m first
can_reach_fewer schedule first m n few (more, t, reached) =
    let whole : n + more ≡ m + (n - m + more) = omega arith in
    (n - m + more, t, subst (λ (x : ℕ). Reaches WordStep (signals_of schedule) 0 x first t) whole reached)

-- a board that is brought again to where another is on the run is in its state
pub same_again : (once : EndsOnce) (schedule entries : List ScheduleEntry) (first s t : State) (k : ℕ) → IsOnRun schedule first entries k s → Reaches WordStep (signals_of schedule) 0 k first t → t ≡ s
same_again once schedule entries first s t k (same, reached) again =
    one_reached WordStep (one_result once) (signals_of schedule) 0 k first t s again (subst (λ (es : List ScheduleEntry). Reaches WordStep (signals_of es) 0 k first s) same reached)

module _ (once : EndsOnce) (schedule : List ScheduleEntry) (breaks watches : List ℕ) (first : State) where
  -- a step that can be done does not stop
  not_left : (k n m j : ℕ) (stop : Stop) (s t : State) → Reaches WordStep (signals_of schedule) 0 k first s → CanReach schedule m first → k + n ≤ m
      → runs.Stops WordStep (signals_of schedule) breaks watches k n s j stop t → ⊥
  not_left k n m j stop s t before can few p =
      let at = p.at in
      let below = p.before in
      let reached = went_on WordStep (signals_of schedule) breaks watches k n j first s t (ended.Left stop) before p in
      ran_not_left can.1 t j stop
      (once (signals_of schedule) 0 (m + can.0) first (Ran can.1) (Left j stop t) can.2 (record { done = j; before = omega arith; at = omega arith; reached = reached; stops = p.stops }))

  -- a run that ended before its last step was done ended at a breakpoint or a watch
  pub stopped : (k n m j : ℕ) (s t : State) (e : Ended) → may_go_on e ≡ false → Reaches WordStep (signals_of schedule) 0 k first s → CanReach schedule m first → k + n ≤ m
      → Goes WordStep (signals_of schedule) breaks watches k n s e j t → IsStop WordStep (signals_of schedule) breaks watches first e j t × (k < j) × (j ≤ k + n)
  stopped k n m j s t ended.Ran has before can few g = absurd (true_not_false has)
  stopped k n m j s t ended.Met has before can few (u, p, left, met) =
      let at = p.at in
      let below = p.before in
      let here : k + p.done + 0 ≡ k + p.done = omega arith in (
        record {
          done = k + p.done;
          from = u;
          at = p.at;
          reached = more WordStep (signals_of schedule) k p.done (k + p.done) first s u before (passed WordStep (signals_of schedule) breaks watches k p.done s u p.passed) refl;
          goes = (
            u,
            record { done = 0; before = omega arith; at = omega arith; passed = refl; steps = subst (λ (x : ℕ). WordStep ((signals_of schedule).lines x) ((signals_of schedule).bio x) u (Ok t)) (sym here) p.steps },
            left,
            met,
          );
        },
        omega arith,
        omega arith,
      )
  stopped k n m j s t (ended.Left stop) has before can few g = absurd (not_left k n m j stop s t before can few g)
  stopped k n m j s t (ended.Changed address old new) has before can few (u, p, is, was, now) =
      let at = p.at in
      let below = p.before in
      let here : k + p.done + 0 ≡ k + p.done = omega arith in (
        record {
          done = k + p.done;
          from = u;
          at = p.at;
          reached = more WordStep (signals_of schedule) k p.done (k + p.done) first s u before (passed WordStep (signals_of schedule) breaks watches k p.done s u p.passed) refl;
          goes = (
            u,
            record { done = 0; before = omega arith; at = omega arith; passed = refl; steps = subst (λ (x : ℕ). WordStep ((signals_of schedule).lines x) ((signals_of schedule).bio x) u (Ok t)) (sym here) p.steps },
            is,
            was,
            now,
          );
        },
        omega arith,
        omega arith,
      )
  stopped k n m j s t ended.Full has before can few g = absurd g

  -- the rest of a run passed
  pub stops_last : (n k j : ℕ) (s t : State) (e f : Ended) → k ≤ n → Reaches WordStep (signals_of schedule) 0 k first s → IsStop WordStep (signals_of schedule) breaks watches first e k s
      → may_go_on f ≡ true → Goes WordStep (signals_of schedule) breaks watches k (n - k) s f j t → StopsLast WordStep (signals_of schedule) breaks watches first n e k s
  stops_last n k j s t e f few reached stops on g =
      let quiet : Goes WordStep (signals_of schedule) breaks watches k (n - k) s ended.Ran j t = subst (λ (x : Ended). Goes WordStep (signals_of schedule) breaks watches k (n - k) s x j t) (ran_is f on) g in
      record { before = few; reached = reached; stops = stops; last = t; quiet = quiet.0 }

-- ---- one turn after another

-- a board that was made anew is on the run
pub begun : (schedule entries : List ScheduleEntry) (first s : State) (k : ℕ) → entries ≡ schedule → k ≡ 0 → s ≡ first → IsOnRun schedule first entries k s
begun schedule entries first s k same none here = (same, subst (λ (x : ℕ). Reaches WordStep (signals_of entries) 0 x first s) (sym none) (sym here))

-- where a turn left a run
pub record Turned (schedule : List ScheduleEntry) (breaks watches : List ℕ) (first : State) (n k : ℕ) (e : Ended) (entries : List ScheduleEntry) (j : ℕ) (t : State) : Type 0 where
  pub on : IsOnRun schedule first entries j t
  pub stops : IsStop WordStep (signals_of schedule) breaks watches first e j t
  pub more : k < j
  pub within : j ≤ n

module _ (once : EndsOnce) (schedule before : List ScheduleEntry) (breaks watches : List ℕ) (first : State) (n m k j : ℕ) (s t : State) (on : IsOnRun schedule first before k s) (can : CanReach schedule n first) (few : k ≤ n)
    (rest : m ≡ n - k) (e : Ended) (goes : Goes WordStep (signals_of before) breaks watches k m s e j t) where
  here : Reaches WordStep (signals_of schedule) 0 k first s
  here = subst (λ (es : List ScheduleEntry). Reaches WordStep (signals_of es) 0 k first s) on.0 on.1

  went : Goes WordStep (signals_of schedule) breaks watches k (n - k) s e j t
  went = subst (λ (x : ℕ). Goes WordStep (signals_of schedule) breaks watches k x s e j t) rest (subst (λ (es : List ScheduleEntry). Goes WordStep (signals_of es) breaks watches k m s e j t) on.0 goes)

  -- a turn that stopped
  pub turned : (after : List ScheduleEntry) → after ≡ before → may_go_on e ≡ false → Turned schedule breaks watches first n k e after j t
  turned after same has =
      let stop = stopped once schedule breaks watches first k (n - k) n j s t e has here can (omega arith) went in
      let high = stop.2 in
      let reached = went_on WordStep (signals_of schedule) breaks watches k (n - k) j first s t e here went in
      let is : after ≡ schedule = same ∙ on.0 in
      record {
        on = (is, subst (λ (es : List ScheduleEntry). Reaches WordStep (signals_of es) 0 j first t) (sym is) reached);
        stops = stop.0;
        more = stop.1;
        within = omega arith;
      }

  -- the last turn passed
  pub finished : (last : Stopped) → last.steps ≡ k → IsStop WordStep (signals_of schedule) breaks watches first last.ended k s → may_go_on e ≡ true → IsLastStop schedule breaks watches first n last
  finished last at stops goes_on =
      (s, subst (λ (x : ℕ). StopsLast WordStep (signals_of schedule) breaks watches first n last.ended x s) (sym at) (stops_last once schedule breaks watches first n k j s t last.ended e few here stops goes_on went))

-- all turns were done
pub all_turned : (schedule entries : List ScheduleEntry) (breaks watches : List ℕ) (first : State) (n k : ℕ) (s : State) (last : Stopped) → IsOnRun schedule first entries k s → k ≡ n → last.steps ≡ k
    → IsStop WordStep (signals_of schedule) breaks watches first last.ended k s → IsLastStop schedule breaks watches first n last
all_turned schedule entries breaks watches first n k s last on all at stops =
    let here = subst (λ (es : List ScheduleEntry). Reaches WordStep (signals_of es) 0 k first s) on.0 on.1 in
    let none : 0 ≡ n - k = omega arith in
    let quiet : Passes WordStep (signals_of schedule) breaks watches k 0 s s = refl in
    let stops_there : StopsLast WordStep (signals_of schedule) breaks watches first n last.ended k s =
    record { before = omega arith; reached = here; stops = stops; last = s; quiet = subst (λ (x : ℕ). Passes WordStep (signals_of schedule) breaks watches k x s s) none quiet } in
    (s, subst (λ (x : ℕ). StopsLast WordStep (signals_of schedule) breaks watches first n last.ended x s) (sym at) stops_there)

-- ---- the answer

-- what `rback` answers where a run last stopped, to which a board was brought again
pub told_back : {E : Type 0} (once : EndsOnce) (schedule entries : List ScheduleEntry) (first : State) (p : PromptPoint) (n : ℕ) (last : Stopped) (j : ℕ) (t : State) (r : Result Answer E) → entries ≡ schedule
    → n ≡ p.at.steps - 1 → IsLastStop schedule p.at.breaks p.watches first n last → Reaches WordStep (signals_of schedule) 0 last.steps first t → j ≡ last.steps
    → IfOk r (λ a. string_bytes a.text ≡ end_text last.ended j t.registers.pc)
    → IfOk r (λ a. BacksTo WordStep (signals_of entries) first p (string_bytes a.text) (record { at = record { steps = j; state = t; breaks = p.at.breaks }; once = p.once; watches = p.watches; ignored = p.ignored }))
told_back once schedule entries first p n last j t (Err e) same count found reached at told = tt
told_back once schedule entries first p n last j t (Ok a) same count found reached at told =
    let here : found.0 ≡ t = one_reached WordStep (one_result once) (signals_of schedule) 0 last.steps first found.0 t found.1.reached reached in
    let breaks = p.at.breaks in
    let there = subst (λ (x : State). StopsLast WordStep (signals_of schedule) breaks p.watches first n last.ended last.steps x) here found.1 in
    let counted = subst (λ (x : ℕ). StopsLast WordStep (signals_of schedule) breaks p.watches first x last.ended last.steps t) count there in
    let at_step = subst (λ (x : ℕ). StopsLast WordStep (signals_of schedule) breaks p.watches first (p.at.steps - 1) last.ended x t) (sym at) counted in
    record {
      end = last.ended;
      stops = subst (λ (es : List ScheduleEntry). StopsLast WordStep (signals_of es) breaks p.watches first (p.at.steps - 1) last.ended j t) (sym same) at_step;
      breaks = refl;
      once = refl;
      watches = refl;
      ignored = refl;
      says = told;
    }
