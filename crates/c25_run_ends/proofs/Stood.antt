-- Steps of a run that were tried, one part after the other.
use Rattle.std.proofs.Common.{◌≡◌, ◌∙◌, ℕ, suc, ◌+◌, ◌≤◌, List, [], Some, None, Option, add-one, arith, refl, subst, sym}
use Rattle.std.specs.Prelude.{◌-◌, IfOk, Result, zero}
use Rattle.std.proofs.Math.Numerals.{sub-one}
use Rattle.c25_meaning_linking.specs.Linking.{ImageData}
use Rattle.c25_meaning_processor.specs.Run.{Reaches, Signals}
use Rattle.c25_meaning_processor.specs.Signals.{signals_of}
use Rattle.c25_meaning_processor.specs.State.{State}
use Rattle.c25_meaning_processor.specs.WordStep.{WordStep}
use Rattle.c25_meaning_processor.specs.declared.schedule.ScheduleEntry.{ScheduleEntry}
use Rattle.c25_run_ends.specs.Standing.{StandsAt}
use Rattle.c25_run_ends.specs.Stepping.{Arrives, Known}
use Rattle.c25_run_ends.specs.Texts.{before_text}
use Rattle.c25_unused_inputs.specs.Stepping.{HasCome, StopsWithin, Watches}
use Rattle.c25_unused_inputs.specs.Watched.{KnowAll}
use Rattle.c25_unused_inputs.specs.declared.requests.Requests.{Requests}

-- what is known once n steps were watched after those that a board has done, m in all
abbrev pub Watching : List ScheduleEntry → (m n : ℕ) → State → (j : ℕ) → State → (given : Requests) → Option Requests → Type 0
Watching es m n u j t given r =
    (s : State) → Reaches WordStep (signals_of es) 0 m s u → KnowAll (signals_of es) m s given → Watches (signals_of es) (m + n) s j t given r

wider : (signals : Signals) (k n : ℕ) (s : State) → k ≤ n → StopsWithin signals k s → StopsWithin signals n s
wider signals k n s few (at, stop, v, h) =
    (at, stop, v, record { done = h.done; before = omega (arith, few, h.before); at = h.at; reached = h.reached; stops = h.stops })

-- ---- the first n steps

module _ (es : List ScheduleEntry) (m n j : ℕ) (s t : State) (given : Requests) (first : m ≡ 0) (known : KnowAll (signals_of es) 0 s given) where
  pub from_first : (r : Option Requests) → Watching es m n s j t given r → Watches (signals_of es) n s j t given r
  from_first r watching =
      let begun = subst (λ (x : ℕ). Reaches WordStep (signals_of es) 0 x s s) (sym first) refl in
      let knows = subst (λ (x : ℕ). KnowAll (signals_of es) x s given) (sym first) known in
      let all : m + n ≡ n = omega (arith, first) in
      subst (λ (x : ℕ). Watches (signals_of es) x s j t given r) all (watching s begun knows)

  pub stopped_first : (r : Option Requests) (k : ℕ) → r ≡ None → n ≤ k → Watching es m n s j t given r → StopsWithin (signals_of es) k s
  stopped_first r k none few watching =
      wider (signals_of es) n k s few (subst (λ (o : Option Requests). Watches (signals_of es) n s j t given o) none (from_first r watching))

  pub come_first : (r : Option Requests) (rs : Requests) → r ≡ Some rs → Watching es m n s j t given r → HasCome (signals_of es) n s j t given rs
  come_first r rs some watching = subst (λ (o : Option Requests). Watches (signals_of es) n s j t given o) some (from_first r watching)

-- ---- one step after them

module _ (es later : List ScheduleEntry) (n j i : ℕ) (s t u : State) (given rs : Requests) (same : later ≡ es) (come : HasCome (signals_of es) n s j t given rs) where
  one_more : (r : Option Requests) → Watching later j 1 t i u rs r → Watches (signals_of es) (suc n) s i u rs r
  one_more r watching =
      let under = subst (λ (x : List ScheduleEntry). Watching x j 1 t i u rs r) same watching in
      let reached = subst (λ (x : ℕ). Reaches WordStep (signals_of es) 0 x s t) (sym come.count) come.reached in
      let knows = subst (λ (x : ℕ). KnowAll (signals_of es) x s rs) (sym come.count) come.known in
      let all : j + 1 ≡ suc n = omega (arith, come.count) in
      subst (λ (x : ℕ). Watches (signals_of es) x s i u rs r) all (under s reached knows)

  pub stopped_then : (r : Option Requests) → r ≡ None → Watching later j 1 t i u rs r → StopsWithin (signals_of es) (suc n) s
  stopped_then r none watching = subst (λ (o : Option Requests). Watches (signals_of es) (suc n) s i u rs o) none (one_more r watching)

  pub arrived : (image : ImageData) (r : Option Requests) (qs : Requests) (place before : List ℕ) → r ≡ Some qs → Watching later j 1 t i u rs r
      → StandsAt image t place → before ≡ before_text place → Arrives (signals_of es) image s (suc n) i u given (Some (before, qs))
  arrived image r qs place before some watching stands told =
      let h : HasCome (signals_of es) (suc n) s i u rs qs = subst (λ (o : Option Requests). Watches (signals_of es) (suc n) s i u rs o) some (one_more r watching) in
      (record { reached = h.reached; known = h.known; same = h.same ∙ come.same; count = h.count }, (t, come.reached, (place, stands, told)))

-- ---- the first steps, by their number

-- no step is done
pub none_arrived : (signals : Signals) (image : ImageData) (s : State) (given : Requests) (k j : ℕ) (text : List ℕ) → k ≡ 0 → j ≡ 0 → text ≡ [] → KnowAll signals 0 s given
    → Arrives signals image s k j s given (Some (text, given))
none_arrived signals image s given zero j text first count empty known = (record { reached = refl; known = known; same = refl; count = count }, empty)
none_arrived signals image s given (suc n) j text first count empty known = absurd cc

-- the answer to one step after all steps before it but the last
pub all_arrived : {X E : Type 0} (view : X → Option Known) (signals : Signals) (image : ImageData) (s : State) (k j : ℕ) (t : State) (given : Requests) (r : Result X E) → (k ≡ 0 → ⊥)
    → IfOk r (λ x. Arrives signals image s (suc (k - 1)) j t given (view x)) → IfOk r (λ x. Arrives signals image s k j t given (view x))
all_arrived view signals image s zero j t given r some there = absurd (some refl)
all_arrived view signals image s (suc n) j t given r some there = subst (λ (x : ℕ). IfOk r (λ y. Arrives signals image s (suc x) j t given (view y))) (let same : suc n - 1 ≡ n = sub-one (suc n) in same) there
