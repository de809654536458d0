-- Of a run that has an end, the first bytes of what it prints are those of the text of that end.
use Rattle.std.proofs.Common.{◌≡◌, ◌∙◌, inl, inr, ℕ, zero, suc, ◌+◌, ◌-◌, ◌≤◌, add-zero, arith, ap, refl, sym, subst, Bool, true, false, List, [], ◌++◌, append_assoc, append-nil, Option, Ok}
use Rattle.c25_chain.specs.OutcomeText.{end_text, outcome_of, outcome_text, steps_of}
use Rattle.c25_report.specs.Ending.{HasFront}
use Rattle.c25_meaning_processor.specs.Run.{Ending, Left, Ran, Reaches, Runs, Signals, Stepping}
use Rattle.c25_meaning_processor.specs.State.{State}
use Rattle.c25_meaning_processor.specs.WordStep.{WordStep}
use Rattle.c25_run.proofs.Joined.{EndOnce, Joins, PutFew, front_of_end, front_of_more}
use Rattle.c25_run.proofs.TimedSteps.{timed_joined}
use Rattle.c25_run.specs.Printed.{HasFrontOf, PrintsFront, TimedBreaksOff}
use Rattle.c25_run.specs.Timed.{PutIn, PutTo, TimedOutput, at_step, timed_text}

-- steps whose outputs are these lead where they lead
pub put_reaches : (step : Stepping) (signals : Signals) (k n : ℕ) (s : State) (timed : List TimedOutput) (t : State) → PutIn step signals k n s timed t → Reaches step signals k n s t
put_reaches step signals k zero s timed t h = h.0
put_reaches step signals k (suc n) s timed t (u, before, new, put, leads, grew, is) = (u, put_reaches step signals k n s before u put, leads)

-- ---- each run has its outputs

one_reached : (signals : Signals) (k : ℕ) (s t : State) → WordStep (signals.lines k) (signals.bio k) s (Ok t) → Reaches WordStep signals k 1 s t
one_reached signals k s t leads = (s, refl, subst (λ (x : ℕ). WordStep (signals.lines x) (signals.bio x) s (Ok t)) (sym (add-zero k)) leads)

reached_put : (few : PutFew) (signals : Signals) (k n : ℕ) (s t : State) → Reaches WordStep signals k n s t → (timed : List TimedOutput) × PutIn WordStep signals k n s timed t
reached_put few signals k zero s t same = ([], (same, refl))
reached_put few signals k (suc n) s t (u, reached, leads) =
    let earlier = reached_put few signals k n s u reached in
    let grown = few signals (k + n) 1 u t (one_reached signals (k + n) u t leads) in
    (earlier.0 ++ at_step (k + n) grown.0, (u, earlier.0, grown.0, earlier.1, leads, grown.1, refl))

put_joined : (signals : Signals) (m : ℕ) (s x : State) (a : List TimedOutput) → PutIn WordStep signals 0 m s a x → (n : ℕ) (b : List TimedOutput) (t : State) → PutIn WordStep signals (0 + m) n x b t
    → PutIn WordStep signals 0 (m + n) s (a ++ b) t
put_joined signals m s x a first zero b t (same, none) =
    subst (λ (i : ℕ). PutIn WordStep signals 0 i s (a ++ b) t) (sym (add-zero m))
    (subst (λ (ts : List TimedOutput). PutIn WordStep signals 0 m s ts t) (sym (ap (λ (ts : List TimedOutput). a ++ ts) none ∙ append-nil a))
    (subst (λ (z : State). PutIn WordStep signals 0 m s a z) same first))
put_joined signals m s x a first (suc n) b t (u, before, new, earlier, leads, grew, is) =
    let at : 0 + m + n ≡ 0 + (m + n) = omega arith in
    let next : m + suc n ≡ suc (m + n) = omega arith in
    let step = λ (i : ℕ). at_step i new in
    subst (λ (i : ℕ). PutIn WordStep signals 0 i s (a ++ b) t) (sym next) (
      u,
      a ++ before,
      new,
      put_joined signals m s x a first n before u earlier,
      subst (λ (i : ℕ). WordStep (signals.lines i) (signals.bio i) u (Ok t)) at leads,
      grew,
      ap (λ (ts : List TimedOutput). a ++ ts) is ∙ sym (append_assoc a before (step (0 + m + n))) ∙ ap (λ (i : ℕ). (a ++ before) ++ step i) at,
    )

module _ (joins : Joins) (few : PutFew) (once : EndOnce) (signals : Signals) (n : ℕ) (s : State) (old new : Option (List ℕ)) where
  module _ (b : TimedBreaksOff signals n s old new) where
    all : n ≡ b.done + (n - b.done)
    all = let within = b.few in omega (arith, within)

    -- the outputs of the rest of the run
    by_rest : (e : Ending) → Runs WordStep signals (0 + b.done) (n - b.done) b.reached e → (more : List TimedOutput) × PutTo WordStep signals n s (b.timed ++ more) e
    by_rest (Ran t) rest =
        let more = reached_put few signals (0 + b.done) (n - b.done) b.reached t rest in
        (more.0, subst (λ (i : ℕ). PutIn WordStep signals 0 i s (b.timed ++ more.0) t) (sym all) (put_joined signals b.done s b.reached b.timed b.put (n - b.done) more.0 t more.1))
    by_rest (Left j stop t) rest =
        let more = reached_put few signals (0 + b.done) rest.done b.reached t rest.reached in
        let at = rest.at in
        let here : j ≡ b.done + rest.done = omega (arith, at) in
        (more.0, subst (λ (i : ℕ). PutIn WordStep signals 0 i s (b.timed ++ more.0) t) (sym here) (put_joined signals b.done s b.reached b.timed b.put rest.done more.0 t more.1))

    whole : (e : Ending) → Runs WordStep signals 0 n s e → (more : List TimedOutput) × PutTo WordStep signals n s (b.timed ++ more) e
    whole e run =
        by_rest e
        ((joins signals 0 b.done (n - b.done) s b.reached e (put_reaches WordStep signals 0 b.done s b.timed b.reached b.put)).1 (subst (λ (x : ℕ). Runs WordStep signals 0 x s e) all run))

  timed_front : (e : Ending) → Runs WordStep signals 0 n s e → PrintsFront true signals n s old new → HasFrontOf true signals n s e old new
  timed_front e run (inl b) =
      let more = whole b e run in
      let told = outcome_text (outcome_of e) (steps_of n e) in
      let first = timed_text b.timed in
      let later = timed_text more.0 in (
        timed_text (b.timed ++ more.0) ++ told,
        (b.timed ++ more.0, more.1, refl),
        subst (λ (x : List ℕ). HasFront (x ++ told) old new) (sym (timed_joined b.timed more.0))
            (subst (λ (x : List ℕ). HasFront x old new) (sym (append_assoc first later told)) (front_of_more first (later ++ told) old new b.front)),
      )
  timed_front e run (inr (end, ran, has)) = subst (λ (x : Ending). HasFrontOf true signals n s x old new) (once signals 0 n s end e ran run) has

  pub front_in_end : (when : Bool) (e : Ending) → Runs WordStep signals 0 n s e → PrintsFront when signals n s old new → HasFrontOf when signals n s e old new
  front_in_end true e run h = timed_front e run h
  front_in_end false e run h = (end_text n e, refl, front_of_end joins few once signals n s old new e run h)
