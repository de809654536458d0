-- What a board that was run with an empty batch prints: the batch has room for an output of each step.
use Rattle.std.proofs.Common.{◌≡◌, ◌∙◌, ℕ, suc, zero, ◌+◌, ◌<◌, ◌≤◌, List, [], ◌++◌, length, Option, ap, refl, sym, subst, append-nil, arith}
use Rattle.std.proofs.Math.Nat.{le-min}
use Rattle.std.specs.Prelude.{◌-◌, ◌^◌, min}
use Rattle.std.specs.Io.KnownBytes.{Appends}
use Rattle.c25_board.specs.Run.{IsRun}
use Rattle.c25_board.specs.declared.board.Outcome.{Outcome}
use Rattle.c25_board.specs.declared.board.Outcome.TheVariants as outcome
use Rattle.c25_chain.specs.OutcomeText.{outcome_of, steps_of}
use Rattle.c25_chain.specs.Run.{last_state}
use Rattle.c25_report.specs.Ending.{HasFront}
use Rattle.c25_run.specs.Printed.{BreaksOff, PrintsSome, PutsLines}
use Rattle.c25_run.specs.Timed.{at_step, timed_text}
use Rattle.c25_meaning_processor.specs.Run.{Ending, Left, Ran, Reaches, Runs, Signals}
use Rattle.c25_meaning_processor.specs.RunText.{outputs_text}
use Rattle.c25_meaning_processor.specs.State.{State}
use Rattle.c25_meaning_processor.specs.WordStep.{WordStep}
use Rattle.c25_run_laws.specs.Behind.{behind}
use Rattle.c25_run.proofs.Joined.{PutFew}

-- a sink that has failed has failed some times
fails_some : (failed fails : ℕ) → fails ≡ min (failed + 1) (2 ^ 64 - 1) → 0 < fails
fails_some failed fails counted =
    let some : 1 ≤ min (failed + 1) (2 ^ 64 - 1) = le-min (omega arith) (omega arith) in
    omega (arith, some, counted)

-- a batch without outputs has not failed
pub none_failed : (failures : ℕ) (outputs : List (ℕ × ℕ)) → outputs ≡ [] → (0 < failures → length outputs ≡ 4096) → failures ≡ 0
none_failed zero outputs none full = refl
none_failed (suc n) outputs none full =
    let all = full (omega arith) in
    let some : length outputs ≡ 0 = ap length none in
    absurd (omega (arith, all, some))

-- the state without outputs
abbrev pub cleared : State → State
cleared t = record t { world = record t.world { outputs = [] } }

module _ (put : PutFew) (signals : Signals) (k n : ℕ) (s t : State) (j failed fails : ℕ) (empty : s.world.outputs ≡ []) (few : n ≤ 4096) (full : 0 < fails → length t.world.outputs ≡ 4096) where
  record Went (o : Outcome) : Type 0 where
    pub end : Ending
    pub run : Runs WordStep signals k n s end
    pub outcome_is : o ≡ outcome_of end
    pub count : j ≡ steps_of (k + n) end
    pub last : last_state end ≡ t

  went : (o : Outcome) → IsRun signals k n s o j t failed fails → Went o
  went outcome.Ran run = record { end = Ran t; run = run.0; outcome_is = refl; count = run.1; last = refl }
  went (outcome.Left at stop) run = record { end = Left at stop t; run = run.0; outcome_is = refl; count = run.1; last = refl }
  went (outcome.SinkFault at) run =
      let grown = put signals k run.0 s t run.3 in
      let below = run.1 in
      let least = grown.2 in
      let all = full (fails_some failed fails run.5) in
      let same = ap length (grown.1 ∙ ap (λ (xs : List (ℕ × ℕ)). xs ++ grown.0) empty) in
      absurd (omega (arith, below, least, all, same, few))

  broken : (e : Ending) (old new : Option (List ℕ)) → Runs WordStep signals k n s e → last_state e ≡ t → HasFront (outputs_text t.world.outputs) old new → BreaksOff signals k n s old new
  broken (Ran x) old new run is front =
      record { done = n; few = omega arith; reached = x; reaches = run; front = subst (λ (y : State). HasFront (outputs_text y.world.outputs) old new) (sym is) front }
  broken (Left i stop x) old new run is front =
      let before = run.before in
      record { done = run.done; few = omega (arith, before); reached = x; reaches = run.reached; front = subst (λ (y : State). HasFront (outputs_text y.world.outputs) old new) (sym is) front }

  pub some_broken : (o : Outcome) (old new : Option (List ℕ)) → IsRun signals k n s o j t failed fails → HasFront (outputs_text t.world.outputs) old new → BreaksOff signals k n s old new
  some_broken o old new ran front = let w = went o ran in broken w.end old new w.run w.last front

  pub some_printed : (o : Outcome) (u : State) (old new : Option (List ℕ)) → IsRun signals k n s o j t failed fails → u ≡ cleared t → Appends old new (outputs_text t.world.outputs) → PrintsSome signals k n s o j u old new
  some_printed o u old new ran is printed =
      let w = went o ran in
      let all : t ≡ behind t.world.outputs (cleared t) = ap (λ (xs : List (ℕ × ℕ)). record t { world = record t.world { outputs = xs } }) (sym (append-nil t.world.outputs)) in
      record {
        end = w.end;
        run = w.run;
        outcome_is = w.outcome_is;
        count = w.count;
        outputs = t.world.outputs;
        left = w.last ∙ all ∙ ap (behind t.world.outputs) (sym is);
        printed = printed;
      }

-- one step, whose outputs come after other lines
pub lines_put : (put : PutFew) (signals : Signals) (k : ℕ) (s t : State) (j failed fails : ℕ) → s.world.outputs ≡ [] → (0 < fails → length t.world.outputs ≡ 4096)
    → (o : Outcome) (u : State) (before after : List ℕ) → IsRun signals k 1 s o j t failed fails → u ≡ cleared t → after ≡ before ++ timed_text (at_step k t.world.outputs)
    → PutsLines signals k s o j u before after
lines_put put signals k s t j failed fails empty full o u before after ran is lines =
    let w = went put signals k 1 s t j failed fails empty (omega arith) full o ran in
    let all : t ≡ behind t.world.outputs (cleared t) = ap (λ (xs : List (ℕ × ℕ)). record t { world = record t.world { outputs = xs } }) (sym (append-nil t.world.outputs)) in
    record {
      end = w.end;
      run = w.run;
      outcome_is = w.outcome_is;
      count = w.count;
      outputs = t.world.outputs;
      left = w.last ∙ all ∙ ap (behind t.world.outputs) (sym is);
      lines = lines;
    }

-- one step puts out one word at most
pub one_put : (put : PutFew) (signals : Signals) (k : ℕ) (s t : State) (j failed fails : ℕ) → s.world.outputs ≡ [] → (0 < fails → length t.world.outputs ≡ 4096)
    → (o : Outcome) → IsRun signals k 1 s o j t failed fails → length t.world.outputs ≤ 1
one_put put signals k s t j failed fails empty full o ran = let w = went put signals k 1 s t j failed fails empty (omega arith) full o ran in go w.end w.run w.last
  where
    grown : (n : ℕ) (x : State) → n ≤ 1 → Reaches WordStep signals k n s x → x ≡ t → length t.world.outputs ≤ 1
    grown n x few reached is =
        let more = put signals k n s x reached in
        let least = more.2 in
        let all : length t.world.outputs ≡ length more.0 = ap (λ (z : State). length z.world.outputs) (sym is) ∙ ap length (more.1 ∙ ap (λ (xs : List (ℕ × ℕ)). xs ++ more.0) empty) in
        omega (arith, few, least, all)

    go : (e : Ending) → Runs WordStep signals k 1 s e → last_state e ≡ t → length t.world.outputs ≤ 1
    go (Ran x) run is = grown 1 x (omega arith) run is
    go (Left i stop x) run is = let before = run.before in grown run.done x (omega (arith, before)) run.reached is
