-- Some steps of a board after those that it has done.
use Rattle.std.proofs.Common.{◌≡◌, ◌∙◌, ℕ, ◌+◌, ◌≤◌, List, Option, subst, sym, arith}
use Rattle.c25_board.specs.declared.board.Outcome.{Outcome}
use Rattle.c25_board.specs.declared.board.Outcome.TheVariants as outcome
use Rattle.c25_chain.specs.OutcomeText.{outcome_of, steps_of}
use Rattle.c25_meaning_processor.specs.declared.stop.Stop.{Stop}
use Rattle.c25_meaning_processor.specs.Run.{Ending, Left, Ran}
use Rattle.c25_meaning_processor.specs.State.{State}
use Rattle.c25_meaning_processor.specs.Signals.{signals_of}
use Rattle.c25_meaning_processor.specs.declared.schedule.ScheduleEntry.{ScheduleEntry}
use Rattle.c25_run.specs.Printed.{BreaksOff, PrintsSome}
use Rattle.c25_run.proofs.Joined.{GoBehind, Joins, left_printed, more_printed, none_printed, then_broken, wider_broken}

pub begun : (given : List ScheduleEntry) (j : ℕ) (s : State) (old : Option (List ℕ)) → j ≡ 0 → PrintsSome (signals_of given) 0 0 s outcome.Ran j s old old
begun given j s old first = subst (λ (x : ℕ). PrintsSome (signals_of given) 0 0 s outcome.Ran x s old old) (sym first) (none_printed (signals_of given) 0 s old)

pub ran_steps : (e : Ending) (m : ℕ) → outcome.Ran ≡ outcome_of e → steps_of (0 + m) e ≡ 0 + m
ran_steps (Ran t) m is = let same : 0 + m ≡ 0 + m = omega arith in same
ran_steps (Left j stop t) m is = absurd (let clash = is in cc)

module _ (joins : Joins) (go : GoBehind) (given es : List ScheduleEntry) (m n j : ℕ) (s t : State) (old now new : Option (List ℕ)) (same : es ≡ given) (first : PrintsSome (signals_of given) 0 m s outcome.Ran j t old now) where
  done : j ≡ 0 + m
  done = first.count ∙ ran_steps first.end m first.outcome_is

  pub more_at : (o p : Outcome) (i : ℕ) (u : State) → p ≡ o → PrintsSome (signals_of es) j n t p i u now new → PrintsSome (signals_of given) 0 (m + n) s o i u old new
  more_at o p i u is h =
      let under = subst (λ (x : List ScheduleEntry). PrintsSome (signals_of x) j n t p i u now new) same h in
      let told = subst (λ (x : Outcome). PrintsSome (signals_of given) j n t x i u now new) is under in
      more_printed joins go (signals_of given) 0 m n s t old now new j o i u first (subst (λ (x : ℕ). PrintsSome (signals_of given) x n t o i u now new) done told)

  pub left_at : (all at : ℕ) (stop : Stop) (p : Outcome) (i : ℕ) (u : State) → m + n ≤ all → p ≡ outcome.Left at stop → PrintsSome (signals_of es) j n t p i u now new → PrintsSome (signals_of given) 0 all s (outcome.Left at stop) i u old new
  left_at all at stop p i u few is h = left_printed (signals_of given) 0 (m + n) all s few old new at stop i u (more_at (outcome.Left at stop) p i u is h)

  pub broken_at : (all : ℕ) → m + n ≤ all → BreaksOff (signals_of es) j n t now new → BreaksOff (signals_of given) 0 all s old new
  broken_at all few h =
      let under = subst (λ (x : List ScheduleEntry). BreaksOff (signals_of x) j n t now new) same h in
      wider_broken (signals_of given) 0 (m + n) all s few old new
      (then_broken joins go (signals_of given) 0 m n s t old now new j first (subst (λ (x : ℕ). BreaksOff (signals_of given) x n t now new) done under))
