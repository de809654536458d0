-- Runs, whatever was put out before them.
use Rattle.std.proofs.Common.{ℕ, zero, suc, ◌+◌, Bool, List, Ok, Err, ap, sym, ◌∙◌}
use Rattle.c25_meaning_processor.specs.declared.lines.Lines.{Lines}
use Rattle.c25_meaning_processor.specs.Run.{Ending, Left, Ran, Reaches, Runs, Signals}
use Rattle.c25_meaning_processor.specs.State.{State, StepResult}
use Rattle.c25_meaning_processor.specs.Step.{begun}
use Rattle.c25_meaning_processor.specs.WordStep.{WordStep, mark_found}
use Rattle.c25_run_laws.proofs.Apart.{outcome_behind, stepped_apart}
use Rattle.c25_run_laws.proofs.Fetched.{fetched_behind}
use Rattle.c25_run_laws.specs.Behind.{behind, end_behind}

module _ (o : List (ℕ × ℕ)) where
  step_behind : (lines : Lines) (bio : Bool) (s : State) (outcome : StepResult) → WordStep lines bio s outcome → WordStep lines bio (behind o s) (outcome_behind o outcome)
  step_behind lines bio s outcome (i, fetched, is) =
      let r = begun lines s in
      (i, fetched_behind o r.cnf s.world r.pc (mark_found r.cnf s.world r.pc) i fetched, ap (outcome_behind o) is ∙ sym (stepped_apart o bio i r s.world))

  reaches_behind : (signals : Signals) (k n : ℕ) (s t : State) → Reaches WordStep signals k n s t → Reaches WordStep signals k n (behind o s) (behind o t)
  reaches_behind signals k zero s t same = ap (behind o) same
  reaches_behind signals k (suc n) s t (u, reached, step) =
      (behind o u, reaches_behind signals k n s u reached, step_behind (signals.lines (k + n)) (signals.bio (k + n)) u (Ok t) step)

  pub runs_behind : (signals : Signals) (k n : ℕ) (s : State) (e : Ending) → Runs WordStep signals k n s e → Runs WordStep signals k n (behind o s) (end_behind o e)
  runs_behind signals k n s (Ran t) h = reaches_behind signals k n s t h
  runs_behind signals k n s (Left j stop t) h =
      record {
        done = h.done;
        before = h.before;
        at = h.at;
        reached = reaches_behind signals k h.done s t h.reached;
        stops = step_behind (signals.lines j) (signals.bio j) t (Err stop) h.stops;
      }
