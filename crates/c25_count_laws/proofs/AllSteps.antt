-- The counts of a run and the steps that slept are all its steps.
use Rattle.std.proofs.Common.{◌≡◌, ℕ, zero, suc, ◌+◌, ◌≤◌, Option, None, Some, refl, sym, ap, ◌∙◌, arith}
use Rattle.c25_count_laws.specs.Counts.{Counted, CountsAll, NoneFrom, Sleeps, StatementStep, acts, acts_at, one_asleep, one_at, sum_below}
use Rattle.c25_count_laws.proofs.Sums.{fewer, none_sum, one_elsewhere, step_sum}
use Rattle.c25_count_laws.proofs.OneCount.{counted_reach, statements_end, words_end}
use Rattle.c25_meaning_processor.specs.Run.{Reaches, Signals, Stepping}
use Rattle.c25_meaning_processor.specs.State.{State}
use Rattle.c25_meaning_processor.specs.Statements.{Statements}
use Rattle.c25_meaning_processor.specs.WordStep.{WordStep}

module _ (step : Stepping) (signals : Signals) (k : ℕ) (s : State) where
  slept_reach : (n m : ℕ) (t : State) → Sleeps step signals k n s m t → Reaches step signals k n s t
  slept_reach zero m t h = h.0
  slept_reach (suc n) m t (u, before, slept, leads, sum) = (u, slept_reach n before u slept, leads)

  counted_sleeps : (n : ℕ) (t : State) (count : ℕ → ℕ) → Counted acts step signals k n s count t → (m : ℕ) × Sleeps step signals k n s m t
  counted_sleeps zero t count h = (0, (h.0, refl))
  counted_sleeps (suc n) t count (u, before, counted, leads, sums) =
      let earlier = counted_sleeps n u before counted in
      (earlier.0 + one_asleep (acts_at signals (k + n) u), (u, earlier.0, earlier.1, leads, refl))

  abbrev bound_after : Option ℕ → ℕ → ℕ
  bound_after None bound = bound
  bound_after (Some b) bound = bound + suc b

  none_after : (o : Option ℕ) (bound a : ℕ) → bound_after o bound ≤ a → (bound ≤ a) × (one_at o a ≡ 0)
  none_after None bound a least = (least, refl)
  none_after (Some b) bound a least = (omega (arith, least), one_elsewhere b a (λ e. omega (arith, e, least)))

  bounded : (n : ℕ) (t : State) (count : ℕ → ℕ) → Counted acts step signals k n s count t → (bound : ℕ) × NoneFrom bound count
  bounded zero t count h = (0, λ a least. h.1 a)
  bounded (suc n) t count (u, before, counted, leads, sums) =
      let earlier = bounded n u before counted in
      let o = acts_at signals (k + n) u in (
        bound_after o earlier.0,
        λ a least.
            let after = none_after o earlier.0 a least in
            let sum = sums a in
            let nothing = earlier.1 a after.0 in
            let none = after.1 in
            omega (arith, sum, nothing, none),
      )

  module _ (same_end : (n : ℕ) (t u : State) → Reaches step signals k n s t → Reaches step signals k n s u → t ≡ u) where
    all_steps : (n : ℕ) (t u : State) (count : ℕ → ℕ) (m bound : ℕ) → Counted acts step signals k n s count t → Sleeps step signals k n s m u → NoneFrom bound count → sum_below bound count + m ≡ n
    all_steps zero t u count m bound h g none = let sum = none_sum bound count h.1 in let nothing = g.1 in omega (arith, sum, nothing)
    all_steps (suc n) t u count m bound (v, c, counted, leads, sums) (w, l, slept, also, sum) none =
        let o = acts_at signals (k + n) v in
        let here : v ≡ w = same_end n v w (counted_reach acts step signals k n s v c counted) (slept_reach n l w slept) in
        let earlier = all_steps n v w c l bound counted slept (fewer count c o bound none sums) in
        let last = step_sum count c o bound none sums in
        let more : m ≡ l + one_asleep o = sum ∙ ap (λ (x : State). l + one_asleep (acts_at signals (k + n) x)) (sym here) in
        omega (arith, earlier, last, more)

counts_all : (step : Stepping) → ((signals : Signals) (k : ℕ) (s : State) (n : ℕ) (t u : State) → Reaches step signals k n s t → Reaches step signals k n s u → t ≡ u) → CountsAll step
counts_all step ends =
    record {
      sum = λ signals k n s t u count asleep bound. all_steps step signals k s (ends signals k s) n t u count asleep bound;
      asleep = λ signals k n s t count. counted_sleeps step signals k s n t count;
      bounded = λ signals k n s t count. bounded step signals k s n t count;
    }

pub words_all : CountsAll WordStep
words_all = counts_all WordStep words_end

pub statements_all : (ss : Statements) → CountsAll (StatementStep ss)
statements_all ss = counts_all (StatementStep ss) (statements_end ss)
