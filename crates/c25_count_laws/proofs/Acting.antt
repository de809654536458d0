-- Where a count is not 0, an instruction acts and begins.
use Rattle.std.proofs.Common.{◌≡◌, ℕ, zero, suc, ◌+◌, ◌<◌, Bool, true, false, eqb, if◌then◌else◌, Option, None, Some, Ok, refl, sym, ap, ◌∙◌, subst, arith, inl, inr, ⊎_elim}
use Rattle.std.specs.Option.{option_and_then}
use Rattle.std.proofs.lemmas.Bool.{cases_lt}
use Rattle.std.proofs.lemmas.Bool.Decides.{nat_tests}
use Rattle.c25_count_laws.specs.Counts.{ActsIn, BeginsAt, Counted, CountsActs, StatementStep, acts, acts_at, one_at}
use Rattle.c25_count_laws.proofs.OneCount.{counted_reach, statements_end, words_end}
use Rattle.c25_count_laws.proofs.Sums.{one_here}
use Rattle.c25_meaning_image.specs.declared.mark.RunMark.{RunMark}
use Rattle.c25_meaning_image.specs.Marks.{run_at, size_at}
use Rattle.c25_meaning_instructions.specs.declared.insn.Insn.{Insn}
use Rattle.c25_meaning_processor.specs.declared.registers.Registers.{Registers}
use Rattle.c25_meaning_processor.specs.Run.{Reaches, Signals, Stepping}
use Rattle.c25_meaning_processor.specs.State.{State, World, under}
use Rattle.c25_meaning_processor.specs.Statements.{Statements}
use Rattle.c25_meaning_processor.specs.Step.{begun, stepped}
use Rattle.c25_meaning_processor.specs.WordStep.{IsFetched, IsFound, WordStep, mark_found}
use Rattle.c25_run_laws.proofs.KeptRuns.{words_keep}

-- one is counted where the instruction acts
one_there : (o : Option ℕ) (a : ℕ) → 0 < one_at o a → o ≡ Some a
one_there None a positive = absurd (omega (arith, positive))
one_there (Some b) a positive = go (eqb b a) refl positive
  where
    go : (c : Bool) → eqb b a ≡ c → 0 < (if c then 1 else 0) → Some b ≡ Some a
    go true e positive = let same : b ≡ a = grind (arith, nat_tests) in ap Some same
    go false e positive = absurd (omega (arith, positive))

module _ (step : Stepping) (signals : Signals) (k : ℕ) (s : State) where
  later : (n a : ℕ) → ActsIn step signals k n s a → ActsIn step signals k (suc n) s a
  later n a h =
      let below = h.before in
      record { done = h.done; before = omega (arith, below); old = h.old; new = h.new; reached = h.reached; leads = h.leads; acts = h.acts }

  acted : (n : ℕ) (t : State) (count : ℕ → ℕ) → Counted acts step signals k n s count t → (a : ℕ) → 0 < count a → ActsIn step signals k n s a
  acted zero t count h a positive = absurd (let none = h.1 a in omega (arith, none, positive))
  acted (suc n) t count (u, before, counted, leads, sums) a positive =
      ⊎_elim
      (λ earlier. later n a (acted n u before counted a earlier))
      (λ none.
      let sum = sums a in
      let one : 0 < one_at (acts_at signals (k + n) u) a = omega (arith, sum, none, positive) in
      record {
        done = n;
        before = omega arith;
        old = u;
        new = t;
        reached = counted_reach acts step signals k n s u before counted;
        leads = leads;
        acts = one_there (acts_at signals (k + n) u) a one;
      })
      (cases_lt 0 (before a))

  module _ (same_end : (n : ℕ) (t u : State) → Reaches step signals k n s t → Reaches step signals k n s u → t ≡ u) where
    is_counted : (n : ℕ) (t : State) (count : ℕ → ℕ) → Counted acts step signals k n s count t → (a : ℕ) → ActsIn step signals k n s a → 0 < count a
    is_counted zero t count h a acting = absurd (let below = acting.before in omega (arith, below))
    is_counted (suc n) t count (u, before, counted, leads, sums) a acting =
        let below = acting.before in
        let sum = sums a in
        ⊎_elim
        (λ earlier.
        let positive = is_counted n u before counted a
        (record { done = acting.done; before = earlier; old = acting.old; new = acting.new; reached = acting.reached; leads = acting.leads; acts = acting.acts }) in
        omega (arith, sum, positive))
        (λ last.
        let same : acting.done ≡ n = omega (arith, below, last) in
        let here : acting.old ≡ u = same_end n acting.old u (subst (λ (x : ℕ). Reaches step signals k x s acting.old) same acting.reached) (counted_reach acts step signals k n s u before counted) in
        let acts : acts_at signals (k + n) u ≡ Some a = subst (λ (x : State). acts_at signals (k + n) x ≡ Some a) here (subst (λ (x : ℕ). acts_at signals (k + x) acting.old ≡ Some a) same acting.acts) in
        let one : one_at (acts_at signals (k + n) u) a ≡ 1 = ap (λ (o : Option ℕ). one_at o a) acts ∙ one_here a in
        omega (arith, sum, one))
        (cases_lt acting.done n)

counts_act : (step : Stepping) → ((signals : Signals) (k : ℕ) (s : State) (n : ℕ) (t u : State) → Reaches step signals k n s t → Reaches step signals k n s u → t ≡ u) → CountsActs step
counts_act step ends signals k n s t count counted a =
    (acted step signals k s n t count counted a, is_counted step signals k s (ends signals k s) n t count counted a)

pub words_act : CountsActs WordStep
words_act = counts_act WordStep words_end

pub statements_act : (ss : Statements) → CountsActs (StatementStep ss)
statements_act ss = counts_act (StatementStep ss) (statements_end ss)

-- ---- runs of words

awake : (asleep : Bool) (pc a : ℕ) → (if asleep then None else Some pc) ≡ Some a → (asleep ≡ false) × (pc ≡ a)
awake true pc a e = absurd (cc)
awake false pc a e = (refl, cc)

found_begins : (cnf : Bool) (w : World) (pc : ℕ) (i : Insn) → IsFetched cnf w pc (Some i) → BeginsAt cnf w pc
found_begins cnf w pc i found = go cnf (run_at w.run_marks pc) refl (mark_found cnf w pc) refl found
  where
    go : (b : Bool) (o : Option RunMark) → run_at w.run_marks pc ≡ o → (m : Option RunMark) → option_and_then (under b) o ≡ m → IsFound cnf w pc i m → BeginsAt b w pc
    go b o at None e found = inl (_, found.marked)
    go true (Some m) at (Some n) e found = inr (refl, (m, at))
    go true None at (Some n) e found = absurd (cc)
    go false (Some m) at (Some n) e found = absurd (cc)
    go false None at (Some n) e found = absurd (cc)

-- an instruction that acts, and does not stop, is found where it acts
found : (bio : Bool) (r : Registers) (w : World) (t : State) (i : Option Insn) → r.asleep ≡ false → IsFetched r.cnf w r.pc i → Ok t ≡ stepped bio i r w → BeginsAt r.cnf w r.pc
unfolding stepped
found bio r w t None awake fetched is = absurd (let stops = rw awake at is in cc)
found bio r w t (Some i) awake fetched is = found_begins r.cnf w r.pc i fetched

kept : (cnf : Bool) (old new : World) (a : ℕ) → new.marks ≡ old.marks → new.run_marks ≡ old.run_marks → BeginsAt cnf new a → BeginsAt cnf old a
kept cnf old new a marks run_marks h =
    ⊎_elim
    (λ mark. inl (mark.0, sym (ap (λ ms. size_at ms a) marks) ∙ mark.1))
    (λ run. inr (run.0, (run.1.0, sym (ap (λ ms. run_at ms a) run_marks) ∙ run.1.1)))
    h

pub begins : (signals : Signals) (k n : ℕ) (s : State) (a : ℕ) (h : ActsIn WordStep signals k n s a) → BeginsAt (begun (signals.lines (k + h.done)) h.old).cnf s.world a
begins signals k n s a h =
    let r = begun (signals.lines (k + h.done)) h.old in
    let up = awake r.asleep r.pc a h.acts in
    let keeps = words_keep signals k h.done s h.old h.reached in
    let here = found (signals.bio (k + h.done)) r h.old.world h.new h.leads.0 up.0 h.leads.1 h.leads.2 in
    kept r.cnf s.world h.old.world a keeps.marks keeps.run_marks (subst (BeginsAt r.cnf h.old.world) up.1 here)
