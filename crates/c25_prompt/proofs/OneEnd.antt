-- Where a step has one result at most, a run at the prompt ends in one way.
use Rattle.std.proofs.Common.{◌≡◌, ℕ, zero, suc, ◌+◌, ◌<◌, Bool, true, false, List, Some, None, Ok, Err, refl, sym, ap, subst, ◌∙◌, arith, ⊎_elim}
use Rattle.std.proofs.lemmas.Bool.{cases_lt}
use Rattle.c25_meaning_processor.specs.Goes.{is_met}
use Rattle.c25_meaning_processor.specs.Run.{Reaches, Signals, Stepping}
use Rattle.c25_meaning_processor.specs.State.{State, StepResult}
use Rattle.c25_meaning_processor.specs.declared.lines.Lines.{Lines}
use Rattle.c25_meaning_processor.specs.declared.stop.Stop.{Stop}
use Rattle.c25_prompt.specs.Runs.{Goes, Leaves, Passes, changed, may_go_on}
use Rattle.c25_prompt.specs.declared.ended.Ended.{Ended}
use Rattle.c25_prompt.specs.declared.ended.Ended.TheVariants as ended

-- a step has one result at most
abbrev pub OneResult : Stepping → Type 0
OneResult step = (lines : Lines) (bio : Bool) (u : State) (o p : StepResult) → step lines bio u o → step lines bio u p → o ≡ p

done_not_stopped : (t : State) (stop : Stop) → Ok t ≡ Err stop → ⊥
done_not_stopped t stop e = absurd (cc)

true_is_false : true ≡ false → ⊥
true_is_false e = absurd (cc)

pub same_done : (t u : State) (o : StepResult) → o ≡ Ok t → o ≡ Ok u → t ≡ u
same_done t u o p q =
    let e = sym p ∙ q in
    cc

module _ (step : Stepping) (one : OneResult step) (signals : Signals) where
  -- step k leads so
  abbrev AtStep : ℕ → State → StepResult → Type 0
  AtStep k u o = step (signals.lines k) (signals.bio k) u o

  -- a run that goes on leads to one state
  pub one_reached : (k n : ℕ) (s t u : State) → Reaches step signals k n s t → Reaches step signals k n s u → t ≡ u
  one_reached k zero s t u p q = sym p ∙ q
  one_reached k (suc n) s t u (v, p, to_t) (w, q, to_u) =
      let here = one_reached k n s w v q p in
      same_done t u (Ok t) refl (one (signals.lines (k + n)) (signals.bio (k + n)) v (Ok t) (Ok u) to_t (subst (λ (x : State). AtStep (k + n) x (Ok u)) here to_u))

  module _ (breaks watches : List ℕ) (k : ℕ) (s : State) where
    one_passed : (n : ℕ) (t u : State) → Passes step signals breaks watches k n s t → Passes step signals breaks watches k n s u → t ≡ u
    one_passed zero t u p q = sym p ∙ q
    one_passed (suc n) t u (v, p, to_t, unmet, left) (w, q, to_u, unmet_too, left_too) =
        let here = one_passed n w v q p in
        same_done t u (Ok t) refl (one (signals.lines (k + n)) (signals.bio (k + n)) v (Ok t) (Ok u) to_t (subst (λ (x : State). AtStep (k + n) x (Ok u)) here to_u))

    -- step k + m passes
    record PassesAt (m : ℕ) : Type 0 where
      from : State
      to : State
      passed : Passes step signals breaks watches k m s from
      steps : AtStep (k + m) from (Ok to)
      unmet : is_met breaks to ≡ false
      left : Leaves watches from to

    passes_at : (m n : ℕ) (t : State) → m < n → Passes step signals breaks watches k n s t → PassesAt m
    passes_at m zero t below p = absurd (omega arith)
    passes_at m (suc n) t below (v, p, steps, unmet, left) =
        ⊎_elim
        (λ earlier. passes_at m n v earlier p)
        (λ last.
        let e : n ≡ m = omega arith in
        subst PassesAt e (record { from = v; to = t; passed = p; steps = steps; unmet = unmet; left = left }))
        (cases_lt m n)

    -- the last step of a run that ended before its last step was done
    abbrev IsLast : Ended → (j : ℕ) → (t : State) → (done : ℕ) → (u : State) → StepResult → Type 0
    IsLast ended.Ran j t done u o = ⊥
    IsLast ended.Met j t done u o = (o ≡ Ok t) × (j ≡ k + done + 1) × Leaves watches u t × (is_met breaks t ≡ true)
    IsLast (ended.Left stop) j t done u o = (o ≡ Err stop) × (j ≡ k + done) × (t ≡ u)
    IsLast (ended.Changed address old new) j t done u o =
        (o ≡ Ok t) × (j ≡ k + done + 1) × (changed watches u.world.words t.world.words ≡ Some address) × (old ≡ u.world.words address) × (new ≡ t.world.words address)
    IsLast ended.Full j t done u o = ⊥

    record EndsAt (n : ℕ) (e : Ended) (j : ℕ) (t : State) : Type 0 where
      done : ℕ
      before : done < n
      last : State
      result : StepResult
      passed : Passes step signals breaks watches k done s last
      steps : AtStep (k + done) last result
      is : IsLast e j t done last result

    ends_at : (n : ℕ) (e : Ended) (j : ℕ) (t : State) → may_go_on e ≡ false → Goes step signals breaks watches k n s e j t → EndsAt n e j t
    ends_at n ended.Ran j t has g = absurd (true_is_false has)
    ends_at n ended.Met j t has (u, p, left, met) =
        record { done = p.done; before = p.before; last = u; result = Ok t; passed = p.passed; steps = p.steps; is = (refl, p.at, left, met) }
    ends_at n (ended.Left stop) j t has p =
        record { done = p.done; before = p.before; last = t; result = Err stop; passed = p.passed; steps = subst (λ (x : ℕ). AtStep x t (Err stop)) p.at p.stops; is = (refl, p.at, refl) }
    ends_at n (ended.Changed address old new) j t has (u, p, is, was, now) =
        record { done = p.done; before = p.before; last = u; result = Ok t; passed = p.passed; steps = p.steps; is = (refl, p.at, is, was, now) }
    ends_at n ended.Full j t has g = absurd g

    -- a step that passes is not the last
    not_last : (e : Ended) (j : ℕ) (t u v w : State) (done : ℕ) (o : StepResult) → v ≡ u → Ok w ≡ o → is_met breaks w ≡ false → Leaves watches v w → IsLast e j t done u o → ⊥
    not_last ended.Ran j t u v w done o here same unmet left is = is
    not_last ended.Met j t u v w done o here same unmet left (is, at, kept, met) =
        true_is_false (sym met ∙ ap (is_met breaks) (same_done t w o is (sym same)) ∙ unmet)
    not_last (ended.Left stop) j t u v w done o here same unmet left (is, at, kept) = done_not_stopped w stop (same ∙ is)
    not_last (ended.Changed address old new) j t u v w done o here same unmet left (is, at, found, was, now) =
        let there = same_done w t o (sym same) is in
        let kept : changed watches u.world.words t.world.words ≡ None = subst (λ (x : State). Leaves watches u x) there (subst (λ (x : State). Leaves watches x w) here left) in
        absurd (let e = sym kept ∙ found in cc)
    not_last ended.Full j t u v w done o here same unmet left is = is

    not_at : (e : Ended) (j : ℕ) (t u : State) (done : ℕ) (o : StepResult) → PassesAt done → Passes step signals breaks watches k done s u → AtStep (k + done) u o → IsLast e j t done u o → ⊥
    not_at e j t u done o a passed steps is =
        let here = one_passed done a.from u a.passed passed in
        let same = one (signals.lines (k + done)) (signals.bio (k + done)) u (Ok a.to) o (subst (λ (x : State). AtStep (k + done) x (Ok a.to)) here a.steps) steps in
        not_last e j t u a.from a.to done o here same a.unmet a.left is

    -- the last step says how the run ended
    one_last : (e f : Ended) (i j : ℕ) (t u : State) (done : ℕ) (v : State) (o : StepResult) → IsLast e i t done v o → IsLast f j u done v o → (e ≡ f) × (i ≡ j) × (t ≡ u)
    one_last ended.Ran f i j t u done v o p q = absurd p
    one_last ended.Full f i j t u done v o p q = absurd p
    one_last ended.Met ended.Ran i j t u done v o p q = absurd q
    one_last ended.Met ended.Full i j t u done v o p q = absurd q
    one_last ended.Met ended.Met i j t u done v o p q = (refl, p.1 ∙ sym q.1, same_done t u o p.0 q.0)
    one_last ended.Met (ended.Left stop) i j t u done v o p q = absurd (done_not_stopped t stop (sym p.0 ∙ q.0))
    one_last ended.Met (ended.Changed address old new) i j t u done v o p q =
        let same = same_done t u o p.0 q.0 in
        let kept : changed watches v.world.words u.world.words ≡ None = subst (λ (x : State). Leaves watches v x) same p.2 in
        absurd (let e = sym kept ∙ q.2 in cc)
    one_last (ended.Left stop) ended.Ran i j t u done v o p q = absurd q
    one_last (ended.Left stop) ended.Full i j t u done v o p q = absurd q
    one_last (ended.Left stop) ended.Met i j t u done v o p q = absurd (done_not_stopped u stop (sym q.0 ∙ p.0))
    one_last (ended.Left stop) (ended.Left other) i j t u done v o p q = (let e = sym p.0 ∙ q.0 in cc, p.1 ∙ sym q.1, p.2 ∙ sym q.2)
    one_last (ended.Left stop) (ended.Changed address old new) i j t u done v o p q = absurd (done_not_stopped u stop (sym q.0 ∙ p.0))
    one_last (ended.Changed address old new) ended.Ran i j t u done v o p q = absurd q
    one_last (ended.Changed address old new) ended.Full i j t u done v o p q = absurd q
    one_last (ended.Changed address old new) ended.Met i j t u done v o p q =
        let same = same_done u t o q.0 p.0 in
        let kept : changed watches v.world.words t.world.words ≡ None = subst (λ (x : State). Leaves watches v x) same q.2 in
        absurd (let e = sym kept ∙ p.2 in cc)
    one_last (ended.Changed address old new) (ended.Left stop) i j t u done v o p q = absurd (done_not_stopped t stop (sym p.0 ∙ q.0))
    one_last (ended.Changed address old new) (ended.Changed other before now) i j t u done v o p q =
        let same = same_done t u o p.0 q.0 in
        let found : changed watches v.world.words u.world.words ≡ Some address = subst (λ (x : State). changed watches v.world.words x.world.words ≡ Some address) same p.2 in
        let there : address ≡ other = (let e = sym found ∙ q.2 in cc) in
        let was : old ≡ before = p.3 ∙ ap v.world.words there ∙ sym q.3 in
        let is : new ≡ now = p.4 ∙ ap t.world.words there ∙ ap (λ (x : State). x.world.words other) same ∙ sym q.4 in
        (ap (λ a. ended.Changed a old new) there ∙ ap (λ a. ended.Changed other a new) was ∙ ap (λ a. ended.Changed other before a) is, p.1 ∙ sym q.1, same)

    at_one_step : (n : ℕ) (e f : Ended) (i j : ℕ) (t u : State) (p : EndsAt n e i t) (q : EndsAt n f j u) → p.done ≡ q.done → (e ≡ f) × (i ≡ j) × (t ≡ u)
    at_one_step n e f i j t u p q same =
        let here : p.last ≡ q.last = one_passed q.done p.last q.last (subst (λ (x : ℕ). Passes step signals breaks watches k x s p.last) same p.passed) q.passed in
        let there = subst (λ (x : State). AtStep (k + q.done) x p.result) here (subst (λ (x : ℕ). AtStep (k + x) p.last p.result) same p.steps) in
        let result : p.result ≡ q.result = one (signals.lines (k + q.done)) (signals.bio (k + q.done)) q.last p.result q.result there q.steps in
        one_last e f i j t u q.done q.last q.result
        (subst (λ (x : StepResult). IsLast e i t q.done q.last x) result
        (subst (λ (x : State). IsLast e i t q.done x p.result) here
        (subst (λ (x : ℕ). IsLast e i t x p.last p.result) same p.is))) q.is

    both_ended : (n : ℕ) (e f : Ended) (i j : ℕ) (t u : State) → EndsAt n e i t → EndsAt n f j u → (e ≡ f) × (i ≡ j) × (t ≡ u)
    both_ended n e f i j t u p q =
        ⊎_elim
        (λ sooner. absurd (not_at e i t p.last p.done p.result (passes_at p.done q.done q.last sooner q.passed) p.passed p.steps p.is))
        (λ later.
        ⊎_elim
        (λ sooner. absurd (not_at f j u q.last q.done q.result (passes_at q.done p.done p.last sooner p.passed) q.passed q.steps q.is))
        (λ other. at_one_step n e f i j t u p q (omega arith))
        (cases_lt q.done p.done))
        (cases_lt p.done q.done)

    ran_on : (n : ℕ) (f : Ended) (j : ℕ) (t u : State) → Passes step signals breaks watches k n s t → EndsAt n f j u → ⊥
    ran_on n f j t u passed q = not_at f j u q.last q.done q.result (passes_at q.done n t q.before passed) q.passed q.steps q.is

    -- a run ends in one way at most
    pub one_end : (n : ℕ) (e f : Ended) (i j : ℕ) (t u : State) → Goes step signals breaks watches k n s e i t → Goes step signals breaks watches k n s f j u → (e ≡ f) × (i ≡ j) × (t ≡ u)
    one_end n ended.Ran ended.Ran i j t u (p, at) (q, there) = (refl, at ∙ sym there, one_passed n t u p q)
    one_end n ended.Ran f i j t u (p, at) q = absurd (ran_on n f j t u p (ends_at n f j u refl q))
    one_end n e ended.Ran i j t u p (q, at) = absurd (ran_on n e i u t q (ends_at n e i t refl p))
    one_end n e f i j t u p q = both_ended n e f i j t u (ends_at n e i t refl p) (ends_at n f j u refl q)
