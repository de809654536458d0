-- Where a step has one result at most, a run last stopped at one point, and met a breakpoint so many times.
use Rattle.std.proofs.Common.{◌≡◌, ℕ, zero, suc, ◌+◌, ◌-◌, ◌<◌, ◌≤◌, true, false, List, [], ◌∷◌, Ok, refl, sym, ap, subst, ◌∙◌, arith, ⊎_elim}
use Rattle.std.proofs.lemmas.Bool.{cases_lt}
use Rattle.c25_meaning_processor.specs.Goes.{is_met}
use Rattle.c25_meaning_processor.specs.Run.{Reaches, Signals, Stepping}
use Rattle.c25_meaning_processor.specs.State.{State}
use Rattle.c25_prompt.specs.Past.{EndsThere, IsHits, IsStop, Meets, StopsLast, hits_text, one_if}
use Rattle.c25_prompt.specs.Runs.{Goes, Passes, may_go_on}
use Rattle.c25_prompt.specs.declared.ended.Ended.{Ended}
use Rattle.c25_prompt.specs.declared.ended.Ended.TheVariants as ended
use Rattle.c25_prompt.proofs.OnTheRun.{more, passed}
use Rattle.c25_prompt.proofs.OneEnd.{OneResult, one_end, one_reached, same_done}

true_not_false : true ≡ false → ⊥
true_not_false e = absurd (cc)

module _ (step : Stepping) (signals : Signals) (breaks watches : List ℕ) where
  -- the first of steps that passed, and those after them
  passes_split : (k m n : ℕ) (s u : State) → Passes step signals breaks watches k (m + n) s u → (t : State) × Passes step signals breaks watches k m s t × Passes step signals breaks watches (k + m) n t u
  passes_split k m zero s u passed =
      let none : m + 0 ≡ m = omega arith in
      (u, rw none at passed, refl)
  passes_split k m (suc n) s u passed =
      let more : m + suc n ≡ suc (m + n) = omega arith in
      let at : k + (m + n) ≡ k + m + n = omega arith in
      let last = rw more at passed in
      let before = passes_split k m n s last.0 last.1 in
      (before.0, before.1, (last.0, before.2, subst (λ (j : ℕ). step (signals.lines j) (signals.bio j) last.0 (Ok u)) at last.2, last.3, last.4))

module _ (step : Stepping) (one : OneResult step) (signals : Signals) (breaks watches : List ℕ) (first : State) where
  -- a run of steps that pass does not stop in their midst
  none_within : (j n i : ℕ) (s t u : State) (f : Ended) → Reaches step signals 0 j first s → Passes step signals breaks watches j n s t → may_go_on f ≡ false → EndsThere step signals breaks watches first f i u → j < i
      → i ≤ j + n → ⊥
  none_within j n i s t u f before quiet has e low high =
      let at = e.at in
      let whole : n ≡ e.done - j + (1 + (j + n - i)) = omega arith in
      let here : j + (e.done - j) ≡ e.done = omega arith in
      let there : e.done ≡ j + (e.done - j) = omega arith in
      let parts = passes_split step signals breaks watches j (e.done - j) (1 + (j + n - i)) s t (subst (λ (x : ℕ). Passes step signals breaks watches j x s t) whole quiet) in
      let rest = passes_split step signals breaks watches (j + (e.done - j)) 1 (j + n - i) parts.0 t parts.2 in
      let next = subst (λ (x : ℕ). Passes step signals breaks watches x 1 parts.0 rest.0) here rest.1 in
      let reached = more step signals j (e.done - j) e.done first s parts.0 before (passed step signals breaks watches j (e.done - j) s parts.0 parts.1) there in
      let same = one_reached step one signals 0 e.done first parts.0 e.from reached e.reached in
      let ends = one_end step one signals breaks watches e.done e.from 1 ended.Ran f (e.done + 1) i rest.0 u (subst (λ (x : State). Passes step signals breaks watches e.done 1 x rest.0) same next, refl) e.goes in
      true_not_false (ap may_go_on ends.0 ∙ has)

  not_later : (j n i : ℕ) (s t u : State) (f : Ended) → Reaches step signals 0 j first s → Passes step signals breaks watches j (n - j) s t → IsStop step signals breaks watches first f i u → j < i → i ≤ n → ⊥
  not_later j n i s t u ended.Ran before quiet stop low high = omega (arith, stop, low)
  not_later j n i s t u ended.Met before quiet stop low high = none_within j (n - j) i s t u ended.Met before quiet refl stop low (omega arith)
  not_later j n i s t u (ended.Left reason) before quiet stop low high = absurd stop
  not_later j n i s t u (ended.Changed address old new) before quiet stop low high = none_within j (n - j) i s t u (ended.Changed address old new) before quiet refl stop low (omega arith)
  not_later j n i s t u ended.Full before quiet stop low high = absurd stop

  one_there : (e f : Ended) (j : ℕ) (s t : State) → EndsThere step signals breaks watches first e j s → EndsThere step signals breaks watches first f j t → e ≡ f
  one_there e f j s t p q =
      let at = p.at in
      let at_too = q.at in
      let same : p.done ≡ q.done = omega arith in
      let here = one_reached step one signals 0 q.done first p.from q.from (subst (λ (x : ℕ). Reaches step signals 0 x first p.from) same p.reached) q.reached in
      let goes = subst (λ (x : State). Goes step signals breaks watches q.done 1 x e j s) here (subst (λ (x : ℕ). Goes step signals breaks watches x 1 p.from e j s) same p.goes) in
      (one_end step one signals breaks watches q.done q.from 1 e f j j s t goes q.goes).0

  not_first : (f : Ended) (j : ℕ) (t : State) → j ≡ 0 → EndsThere step signals breaks watches first f j t → ⊥
  not_first f j t none e =
      let at = e.at in
      omega (arith, none, at)

  same_stop : (e f : Ended) (j : ℕ) (s t : State) → IsStop step signals breaks watches first e j s → IsStop step signals breaks watches first f j t → e ≡ f
  same_stop ended.Ran ended.Ran j s t p q = refl
  same_stop ended.Ran ended.Met j s t p q = absurd (not_first ended.Met j t p q)
  same_stop ended.Ran (ended.Left stop) j s t p q = absurd q
  same_stop ended.Ran (ended.Changed address old new) j s t p q = absurd (not_first (ended.Changed address old new) j t p q)
  same_stop ended.Ran ended.Full j s t p q = absurd q
  same_stop ended.Met ended.Ran j s t p q = absurd (not_first ended.Met j s q p)
  same_stop ended.Met ended.Met j s t p q = refl
  same_stop ended.Met (ended.Left stop) j s t p q = absurd q
  same_stop ended.Met (ended.Changed address old new) j s t p q = one_there ended.Met (ended.Changed address old new) j s t p q
  same_stop ended.Met ended.Full j s t p q = absurd q
  same_stop (ended.Left stop) f j s t p q = absurd p
  same_stop (ended.Changed address old new) ended.Ran j s t p q = absurd (not_first (ended.Changed address old new) j s q p)
  same_stop (ended.Changed address old new) ended.Met j s t p q = one_there (ended.Changed address old new) ended.Met j s t p q
  same_stop (ended.Changed address old new) (ended.Left stop) j s t p q = absurd q
  same_stop (ended.Changed address old new) (ended.Changed other before now) j s t p q = one_there (ended.Changed address old new) (ended.Changed other before now) j s t p q
  same_stop (ended.Changed address old new) ended.Full j s t p q = absurd q
  same_stop ended.Full f j s t p q = absurd p

  -- a run last stopped at one point
  pub one_stop : (n : ℕ) (e f : Ended) (i j : ℕ) (s t : State) → StopsLast step signals breaks watches first n e i s → StopsLast step signals breaks watches first n f j t → (e ≡ f) × (i ≡ j) × (s ≡ t)
  one_stop n e f i j s t p q =
      ⊎_elim
      (λ sooner. absurd (not_later i n j s p.last t f p.reached p.quiet q.stops sooner q.before))
      (λ later.
      ⊎_elim
      (λ sooner. absurd (not_later j n i t q.last s e q.reached q.quiet p.stops sooner p.before))
      (λ other.
      let same : i ≡ j = omega arith in (
        same_stop e f j s t (subst (λ (x : ℕ). IsStop step signals breaks watches first e x s) same p.stops) q.stops,
        same,
        one_reached step one signals 0 j first s t (subst (λ (x : ℕ). Reaches step signals 0 x first s) same p.reached) q.reached,
      ))
      (cases_lt j i))
      (cases_lt i j)

  module _ (address : ℕ) where
    one_count : (k n : ℕ) (s : State) (c d : ℕ) (t u : State) → Meets step signals address k n s c t → Meets step signals address k n s d u → (c ≡ d) × (t ≡ u)
    one_count k zero s c d t u (same, none) (same_too, none_too) = (none ∙ sym none_too, sym same ∙ same_too)
    one_count k (suc n) s c d t u (v, before, met, steps, is) (w, earlier, met_too, steps_too, is_too) =
        let both = one_count k n s before earlier v w met met_too in
        let there = same_done t u (Ok t) refl (one (signals.lines (k + n)) (signals.bio (k + n)) w (Ok t) (Ok u) (subst (λ (x : State). step (signals.lines (k + n)) (signals.bio (k + n)) x (Ok t)) both.1 steps) steps_too) in
        (is ∙ ap (λ x. x + one_if (is_met (address ∷ []) t)) both.0 ∙ ap (λ (x : State). earlier + one_if (is_met (address ∷ []) x)) there ∙ sym is_too, there)

    -- a breakpoint was met one number of times
    pub one_hits : (n : ℕ) (s t : List ℕ) → IsHits step signals first address n s → IsHits step signals first address n t → s ≡ t
    one_hits n s t (c, u, met, is) (d, v, met_too, is_too) = is ∙ ap (hits_text address) (one_count 0 n first c d u v met met_too).0 ∙ sym is_too
