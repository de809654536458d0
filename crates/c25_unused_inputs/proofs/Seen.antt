-- What is known of the interrupt lines after one step more.
use Rattle.std.proofs.Common.{◌≡◌, ◌∙◌, ℕ, suc, ◌+◌, ◌<◌, ◌≤◌, ◌↔◌, Bool, true, false, ◌||◌, if◌then◌else◌, List, Option, Some, None, ap, arith, refl, sym, subst, ⊎_elim, add-one}
use Rattle.std.specs.Prelude.{nat_le}
use Rattle.std.proofs.lemmas.Bool.{cases_lt, leb-true, le-leb}
use Rattle.c25_meaning_processor.specs.Run.{Ending, Leaves, Left, Ran, Reaches, Runs, Signals}
use Rattle.c25_meaning_processor.specs.Signals.{signals_of}
use Rattle.c25_meaning_processor.specs.State.{State}
use Rattle.c25_meaning_processor.specs.WordStep.{WordStep}
use Rattle.c25_meaning_processor.specs.declared.schedule.ScheduleEntry.{ScheduleEntry}
use Rattle.c25_meaning_processor.specs.declared.stop.Stop.{Stop}
use Rattle.c25_unused_inputs.specs.Requests.{unwatched}
use Rattle.c25_unused_inputs.specs.Stepping.{Goes, HasCome, StopsWithin, Watches}
use Rattle.c25_unused_inputs.specs.Watched.{ComesOn, KnowAll, Knows, StaysOff, Tells, TellsSince, all_looked, enabled_after, is_enabled, looked}
use Rattle.c25_unused_inputs.specs.declared.requests.Request.{Request}
use Rattle.c25_unused_inputs.specs.declared.requests.Requests.{Requests}

-- a run has one end
abbrev pub Once : Type 0
Once = (signals : Signals) (k n : ℕ) (s : State) (e f : Ending) → Runs WordStep signals k n s e → Runs WordStep signals k n s f → e ≡ f

-- two parts of a run are one
abbrev pub Joins : Type 0
Joins = (signals : Signals) (k m n : ℕ) (s t : State) (e : Ending) → Runs WordStep signals k m s (Ran t) → Runs WordStep signals (k + m) n t e ↔ Runs WordStep signals k (m + n) s e

-- ---- a look before step n

module _ (once : Once) (signals : Signals) (n : ℕ) (s u : State) (reached : Reaches WordStep signals 0 n s u) where
  same_state : (v : State) → Reaches WordStep signals 0 n s v → v ≡ u
  same_state v there = let ends = once signals 0 n s (Ran v) (Ran u) there reached in let same : v ≡ u = cc in same

  stays_more : (bit from : ℕ) → StaysOff signals bit from n s → (from ≤ n → is_enabled bit u ≡ false) → StaysOff signals bit from (n + 1) s
  stays_more bit from off on j v after before there =
      ⊎_elim
      (λ lt. off j v after lt there)
      (λ le.
      let at : j ≡ n = omega (arith, le, before) in
      let now = subst (λ (x : ℕ). Reaches WordStep signals 0 x s v) at there in
      ap (is_enabled bit) (same_state v now) ∙ on (omega (arith, after, at)))
      (cases_lt j n)

  later_on : (bit from : ℕ) → ComesOn signals bit from n s → ComesOn signals bit from (n + 1) s
  later_on bit from h = record { at = h.at; after = h.after; before = omega (arith, h.before); state = h.state; reached = h.reached; on = h.on }

  now_on : (bit from : ℕ) (on : Bool) → from ≤ n → is_enabled bit u ≡ on → StaysOff signals bit from n s → Tells signals bit from (n + 1) s on
  now_on bit from true after is off = record { at = n; after = after; before = omega arith; state = u; reached = reached; on = is }
  now_on bit from false after is off = stays_more bit from off (λ le. is)

  by_reach : (bit from : ℕ) (b : Bool) → nat_le from n ≡ b → (was : Bool) → Tells signals bit from n s was → Tells signals bit from (n + 1) s (if b then was || is_enabled bit u else was)
  by_reach bit from true e true h = later_on bit from h
  by_reach bit from true e false h = now_on bit from (is_enabled bit u) (leb-true from n e) refl h
  by_reach bit from false e true h = later_on bit from h
  by_reach bit from false e false h = stays_more bit from h (λ le. let clash = sym (le-leb from n le) ∙ e in absurd cc)

  tells_more : (bit : ℕ) (last : Option ℕ) (was : Bool) → TellsSince signals bit last n s was → TellsSince signals bit last (n + 1) s (enabled_after last n was (is_enabled bit u))
  tells_more bit None was h = h
  tells_more bit (Some from) was h = by_reach bit from (nat_le from n) refl was h

  pub all_more : (rs : Requests) → KnowAll signals n s rs → KnowAll signals (n + 1) s (all_looked n u rs)
  all_more rs h = record {
    int0 = tells_more _ rs.int0.last rs.int0.enabled h.int0;
    int1 = tells_more _ rs.int1.last rs.int1.enabled h.int1;
    int2 = tells_more _ rs.int2.last rs.int2.enabled h.int2;
  }

-- ---- that step

module _ (once : Once) (joins : Joins) (es later : List ScheduleEntry) (k : ℕ) (s u : State) (given rs : Requests) (j : ℕ) (same : later ≡ es) (come : HasCome (signals_of es) k s j u given rs) where
  one_more : (e : Ending) → Runs WordStep (signals_of later) j 1 u e → Runs WordStep (signals_of es) 0 (k + 1) s e
  one_more e run =
      let at : j ≡ 0 + k = omega (arith, come.count) in
      let there = subst (λ (x : ℕ). Runs WordStep (signals_of later) x 1 u e) at run in
      let under = subst (λ (x : List ScheduleEntry). Runs WordStep (signals_of x) (0 + k) 1 u e) same there in
      (joins (signals_of es) 0 k 1 s u e come.reached).0 under

  pub come_more : (i : ℕ) (t : State) (all : Bool) → all ≡ true → Goes (signals_of later) j 1 u i t all → HasCome (signals_of es) (k + 1) s i t given (all_looked j u rs)
  come_more i t all is went =
      let there = subst (λ (b : Bool). Goes (signals_of later) j 1 u i t b) is went in
      let seen = all_more once (signals_of es) k s u come.reached rs come.known in
      record {
        reached = one_more (Ran t) there.0;
        known = subst (λ (x : ℕ). KnowAll (signals_of es) (k + 1) s (all_looked x u rs)) (sym come.count) seen;
        same = come.same;
        count = let next : i ≡ k + 1 = omega (arith, there.1, come.count) in next;
      }

  pub stopped_more : (n i : ℕ) (t : State) (all : Bool) → all ≡ false → k + 1 ≤ n → Goes (signals_of later) j 1 u i t all → StopsWithin (signals_of es) n s
  stopped_more n i t all is few went =
      let (at, stop, v, left) = subst (λ (b : Bool). Goes (signals_of later) j 1 u i t b) is went in
      let h : Leaves WordStep (signals_of es) 0 (k + 1) s at stop v = one_more (Left at stop v) left in
      (at, stop, v, record { done = h.done; before = omega (arith, few, h.before); at = h.at; reached = h.reached; stops = h.stops })

  pub come_on : (i : ℕ) (t : State) (all : Bool) (after : Requests) (next : ℕ) → all ≡ true → after ≡ all_looked j u rs → next ≡ k + 1 → Goes (signals_of later) j 1 u i t all
      → HasCome (signals_of es) next s i t given after
  come_on i t all after next is looks at went =
      let h = come_more i t all is went in
      let seen = subst (λ (x : Requests). HasCome (signals_of es) (k + 1) s i t given x) (sym looks) h in
      subst (λ (x : ℕ). HasCome (signals_of es) x s i t given after) (sym at) seen

-- before a step more nothing is lost
pub come_none : (es : List ScheduleEntry) (m k : ℕ) (s u : State) (rs : Requests) → k ≡ m → Reaches WordStep (signals_of es) 0 m s u → KnowAll (signals_of es) m s rs → HasCome (signals_of es) k s m u rs rs
come_none es m k s u rs at reached known =
    let h : HasCome (signals_of es) m s m u rs rs = record { reached = reached; known = known; same = refl; count = refl } in
    subst (λ (x : ℕ). HasCome (signals_of es) x s m u rs rs) (sym at) h

pub went_count : (signals : Signals) (j i : ℕ) (u t : State) (all : Bool) → all ≡ true → Goes signals j 1 u i t all → i ≡ j + 1
went_count signals j i u t all is went = (subst (λ (b : Bool). Goes signals j 1 u i t b) is went).1
