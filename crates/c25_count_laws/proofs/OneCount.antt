-- A counted run reaches its end, each run that reaches an end is counted, and has one count where it has one end; and what
-- passes is counted at most as often as what acts.
use Rattle.std.proofs.Common.{◌≡◌, ℕ, zero, suc, ◌+◌, ◌%◌, ◌^◌, ◌≤◌, ◌==◌, Bool, true, false, if◌then◌else◌, List, Option, None, Some, refl, sym, ap, ap₂, ◌∙◌, arith}
use Rattle.c25_count_laws.specs.Counts.{Counted, CountsRuns, Event, PassesAreFew, StatementStep, acts, acts_at, ends_at, goes_on, one_at, passes}
use Rattle.c25_meaning_processor.specs.State.{State}
use Rattle.c25_meaning_processor.specs.Run.{Ran, Reaches, Signals, Stepping}
use Rattle.c25_meaning_processor.specs.Statements.{Statements, statement_step}
use Rattle.c25_meaning_processor.specs.WordStep.{WordStep}
use Rattle.c25_run_laws.proofs.Joined.{words_end_once}
use Rattle.c25_run_laws.proofs.OneRun.{runs_is}

pub counted_reach : (event : Event) (step : Stepping) (signals : Signals) (k n : ℕ) (s t : State) (count : ℕ → ℕ) → Counted event step signals k n s count t → Reaches step signals k n s t
counted_reach event step signals k zero s t count h = h.0
counted_reach event step signals k (suc n) s t count (u, before, counted, leads, sums) = (u, counted_reach event step signals k n s u before counted, leads)

reached_count : (event : Event) (step : Stepping) (signals : Signals) (k n : ℕ) (s t : State) → Reaches step signals k n s t → (count : ℕ → ℕ) × Counted event step signals k n s count t
reached_count event step signals k zero s t same = (λ (a : ℕ). 0, (same, λ a. refl))
reached_count event step signals k (suc n) s t (u, reached, leads) =
    let earlier = reached_count event step signals k n s u reached in
    (λ (a : ℕ). earlier.0 a + one_at (event signals (k + n) u t) a, (u, earlier.0, earlier.1, leads, λ a. refl))

module _ (event : Event) (step : Stepping) (signals : Signals) (k : ℕ) (s : State) (same_end : (n : ℕ) (t u : State) → Reaches step signals k n s t → Reaches step signals k n s u → t ≡ u) where
  one_count : (n : ℕ) (t u : State) (count other : ℕ → ℕ) → Counted event step signals k n s count t → Counted event step signals k n s other u → (a : ℕ) → count a ≡ other a
  one_count zero t u count other h g a = h.1 a ∙ sym (g.1 a)
  one_count (suc n) t u count other (v, c, to_v, p, sums) (w, d, to_w, q, others) a =
      let here : v ≡ w = same_end n v w (counted_reach event step signals k n s v c to_v) (counted_reach event step signals k n s w d to_w) in
      let there : t ≡ u = same_end (suc n) t u (v, counted_reach event step signals k n s v c to_v, p) (w, counted_reach event step signals k n s w d to_w, q) in
      let earlier : c a ≡ d a = one_count n v w c d to_v to_w a in
      let one : one_at (event signals (k + n) v t) a ≡ one_at (event signals (k + n) w u) a = ap₂ (λ (x y : State). one_at (event signals (k + n) x y) a) here there in
      sums a ∙ ap₂ (λ (x y : ℕ). x + y) earlier one ∙ sym (others a)

-- a branch that passes acts
goes_one : (o : Option ℕ) (pc a : ℕ) → one_at (goes_on o pc) a ≤ one_at o a
goes_one None pc a = omega arith
goes_one (Some b) pc a = go ((b + 2) % 2 ^ 16 == pc)
  where
    go : (c : Bool) → one_at (if c then Some b else None) a ≤ one_at (Some b) a
    go true = omega arith
    go false = omega arith

passes_one : (ends : Bool) (o : Option ℕ) (pc a : ℕ) → one_at (if ends then goes_on o pc else None) a ≤ one_at o a
passes_one true o pc a = goes_one o pc a
passes_one false o pc a = omega arith

module _ (branches : List ℕ) (step : Stepping) (signals : Signals) (k : ℕ) (s : State) (same_end : (n : ℕ) (t u : State) → Reaches step signals k n s t → Reaches step signals k n s u → t ≡ u) where
  few : (n : ℕ) (t u : State) (count passing : ℕ → ℕ) → Counted acts step signals k n s count t → Counted (passes branches) step signals k n s passing u → (a : ℕ) → passing a ≤ count a
  few zero t u count passing h g a = let none = h.1 a in let nothing = g.1 a in omega (arith, none, nothing)
  few (suc n) t u count passing (v, c, to_v, p, sums) (w, d, to_w, q, others) a =
      let here : v ≡ w = same_end n v w (counted_reach acts step signals k n s v c to_v) (counted_reach (passes branches) step signals k n s w d to_w) in
      let earlier : d a ≤ c a = few n v w c d to_v to_w a in
      let one : one_at (acts_at signals (k + n) v) a ≡ one_at (acts_at signals (k + n) w) a = ap (λ (x : State). one_at (acts_at signals (k + n) x) a) here in
      let passing_one = passes_one (ends_at branches u.registers.pc) (acts_at signals (k + n) w) u.registers.pc a in
      let sum = sums a in
      let other = others a in
      omega (arith, earlier, one, passing_one, sum, other)

ran : (t u : State) → Ran t ≡ Ran u → t ≡ u
ran t u e = cc

pub words_end : (signals : Signals) (k : ℕ) (s : State) (n : ℕ) (t u : State) → Reaches WordStep signals k n s t → Reaches WordStep signals k n s u → t ≡ u
words_end signals k s n t u p q = ran t u (words_end_once signals k n s (Ran t) (Ran u) p q)

pub statements_end : (ss : Statements) (signals : Signals) (k : ℕ) (s : State) (n : ℕ) (t u : State) → Reaches (StatementStep ss) signals k n s t → Reaches (StatementStep ss) signals k n s u → t ≡ u
statements_end ss signals k s n t u p q =
    ran t u ((runs_is (statement_step ss) signals k s n (Ran t)).0 p ∙ sym ((runs_is (statement_step ss) signals k s n (Ran u)).0 q))

counts_runs : (event : Event) (step : Stepping) → ((signals : Signals) (k : ℕ) (s : State) (n : ℕ) (t u : State) → Reaches step signals k n s t → Reaches step signals k n s u → t ≡ u) → CountsRuns event step
counts_runs event step ends =
    record {
      reaches = counted_reach event step;
      counted = reached_count event step;
      once = λ signals k n s t u count other. one_count event step signals k s (ends signals k s) n t u count other;
    }

pub words_count : (event : Event) → CountsRuns event WordStep
words_count event = counts_runs event WordStep words_end

pub statements_count : (event : Event) (ss : Statements) → CountsRuns event (StatementStep ss)
statements_count event ss = counts_runs event (StatementStep ss) (statements_end ss)

pub words_few : PassesAreFew WordStep
words_few branches signals k n s = few branches WordStep signals k s (words_end signals k s) n

pub statements_few : (ss : Statements) → PassesAreFew (StatementStep ss)
statements_few ss branches signals k n s = few branches (StatementStep ss) signals k s (statements_end ss signals k s) n
