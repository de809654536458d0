-- The counts of runs of the words of an image are those of its statements.
use Rattle.std.proofs.Common.{◌≡◌, ℕ, zero, suc, ◌+◌, ◌↔◌, Bool, Ok, Err, refl, sym, ap, subst}
use Rattle.c25_count_laws.specs.Counts.{Counted, Event, StatementStep}
use Rattle.c25_count_laws.proofs.OneCount.{counted_reach}
use Rattle.c25_meaning_processor.specs.declared.lines.Lines.{Lines}
use Rattle.c25_meaning_processor.specs.State.{State, StepResult}
use Rattle.c25_meaning_processor.specs.Run.{Ran, Signals, ending_after}
use Rattle.c25_meaning_processor.specs.Statements.{IsImageOf, Statements, statement_step}
use Rattle.c25_meaning_processor.specs.WordStep.{WordStep}
use Rattle.c25_run_laws.proofs.Image.{runs_alike, statements_stay}

-- the same lines and BIO level in each step
abbrev always : Lines → Bool → Signals
always lines bio = record { lines = λ k. lines; bio = λ k. bio }

went_on : (j : ℕ) (s t : State) (o : StepResult) → Ran t ≡ ending_after j s o → Ok t ≡ o
went_on j s t (Ok u) e = let same : t ≡ u = cc in ap Ok same
went_on j s t (Err stop) e = absurd (cc)

module _ (event : Event) (ss : Statements) where
  -- a step of the words is one of the statements, and the other way round, as a run of one step
  by_statements : (lines : Lines) (bio : Bool) (s t : State) → IsImageOf ss s.world → WordStep lines bio s (Ok t) → StatementStep ss lines bio s (Ok t)
  by_statements lines bio s t image leads =
      went_on 0 s t (statement_step ss lines bio s) ((runs_alike ss s image (always lines bio) 0 1 (Ran t)).0 (s, refl, leads))

  by_words : (lines : Lines) (bio : Bool) (s t : State) → IsImageOf ss s.world → StatementStep ss lines bio s (Ok t) → WordStep lines bio s (Ok t)
  by_words lines bio s t image leads =
      let run = (runs_alike ss s image (always lines bio) 0 1 (Ran t)).1 (ap (ending_after 0 s) leads) in
      subst (λ (u : State). WordStep lines bio u (Ok t)) (sym run.1) run.2

  module _ (s : State) (image : IsImageOf ss s.world) (signals : Signals) (k : ℕ) where
    stays : (n : ℕ) (count : ℕ → ℕ) (t : State) → Counted event WordStep signals k n s count t → IsImageOf ss t.world
    stays n count t counted = statements_stay ss s image signals k n t (counted_reach event WordStep signals k n s t count counted)

    of_statements : (n : ℕ) (count : ℕ → ℕ) (t : State) → Counted event WordStep signals k n s count t → Counted event (StatementStep ss) signals k n s count t
    of_statements zero count t h = h
    of_statements (suc n) count t (u, before, counted, leads, sums) =
        (u, before, of_statements n before u counted, by_statements (signals.lines (k + n)) (signals.bio (k + n)) u t (stays n before u counted) leads, sums)

    of_words : (n : ℕ) (count : ℕ → ℕ) (t : State) → Counted event (StatementStep ss) signals k n s count t → Counted event WordStep signals k n s count t
    of_words zero count t h = h
    of_words (suc n) count t (u, before, counted, leads, sums) =
        let earlier = of_words n before u counted in
        (u, before, earlier, by_words (signals.lines (k + n)) (signals.bio (k + n)) u t (stays n before u earlier) leads, sums)

  pub counts_alike : (s : State) → IsImageOf ss s.world → (signals : Signals) (k n : ℕ) (count : ℕ → ℕ) (t : State) → Counted event WordStep signals k n s count t ↔ Counted event (StatementStep ss) signals k n s count t
  counts_alike s image signals k n count t = (of_statements s image signals k n count t, of_words s image signals k n count t)
