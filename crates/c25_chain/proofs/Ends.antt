-- A run of a board, as what was done says it.
use Rattle.std.proofs.Common.{◌≡◌, ℕ, ◌+◌, ◌≤◌, List, [], ap, ◌∙◌, refl, subst, arith}
use Rattle.std.specs.FinMap as finite
use Rattle.std.specs.Ordering.{nat_cmp}
use Rattle.std.specs.Prelude.{◌-◌, ◌^◌, min, IfOk, Result, Ok, Err}
use Rattle.std.proofs.Math.Nat.{le-min}
use Rattle.c25_board.specs.Run.{IsRun}
use Rattle.c25_board.specs.declared.board.Outcome.{Outcome}
use Rattle.c25_board.specs.declared.board.Outcome.TheVariants as outcome
use Rattle.c25_meaning_common.specs.declared.no_memory.NoMemory.{NoMemory}
use Rattle.c25_meaning_processor.specs.FirstState.{first_of_pages, memory_of_map}
use Rattle.c25_meaning_processor.specs.FirstState.{loaded}
use Rattle.c25_meaning_processor.specs.Reset.{reset}
use Rattle.c25_meaning_processor.specs.Run.{Ran, Left, Runs, Signals}
use Rattle.c25_meaning_processor.specs.Samples.{samples_at}
use Rattle.c25_meaning_processor.specs.Signals.{signals_of}
use Rattle.c25_meaning_processor.specs.State.{State, state_of}
use Rattle.c25_meaning_processor.specs.WordStep.{WordStep}
use Rattle.c25_meaning_image.specs.declared.mark.Mark.{Mark}
use Rattle.c25_meaning_image.specs.declared.mark.RunMark.{RunMark}
use Rattle.c25_meaning_processor.specs.declared.sample.Sample.{Sample}
use Rattle.c25_meaning_processor.specs.declared.schedule.ScheduleEntry.{ScheduleEntry}
use Rattle.c25_chain.specs.Run.{HasRun, HasRunFrom, Shows, run_data}
use Rattle.c25_chain.specs.declared.run.RunResult.{RunResult}

-- the state of a board before its run
pub begins : (page0 page1 : finite.FinMap nat_cmp ℕ) (places marks : List Mark) (runs run_marks : List RunMark) (samples : ℕ → List ℕ) (outputs : List (ℕ × ℕ)) (s : State)
    → s ≡ state_of reset (record (loaded places runs (memory_of_map page0) (memory_of_map page1) samples) { outputs = outputs })
    → places ≡ marks → runs ≡ run_marks → outputs ≡ [] → s ≡ first_of_pages page0 page1 marks run_marks samples
begins page0 page1 places marks runs run_marks samples outputs s begin same same_runs none =
    begin ∙ ap (λ (m : List Mark). state_of reset (record (loaded m runs (memory_of_map page0) (memory_of_map page1) samples) { outputs = outputs })) same
    ∙ ap (λ (r : List RunMark). state_of reset (record (loaded marks r (memory_of_map page0) (memory_of_map page1) samples) { outputs = outputs })) same_runs
    ∙ ap (λ (o : List (ℕ × ℕ)). state_of reset (record (loaded marks run_marks (memory_of_map page0) (memory_of_map page1) samples) { outputs = o })) none

-- a sink that has failed has failed some times
fails_some : (failed fails : ℕ) → fails ≡ min (failed + 1) (2 ^ 64 - 1) → fails ≡ 0 → ⊥
fails_some failed fails counted none =
    let some : 1 ≤ min (failed + 1) (2 ^ 64 - 1) = le-min (omega arith) (omega arith) in
    omega (arith, some, counted, none)

module _ (signals : Signals) (s : State) (n : ℕ) (d : RunResult) where
  ends : (o : Outcome) (j : ℕ) (t : State) (failed fails : ℕ) → IsRun signals 0 n s o j t failed fails → fails ≡ 0 → d.outcome ≡ o → d.steps ≡ j → Shows t (run_data d) → HasRunFrom signals s n d t
  ends outcome.Ran j t failed fails run none named counted shows = record { end = Ran t; run = run.0; ends = (named, counted ∙ run.1 ∙ omega arith, shows); last = refl }
  ends (outcome.Left at stop) j t failed fails run none named counted shows = record { end = Left at stop t; run = run.0; ends = (named, counted ∙ run.1, shows); last = refl }
  ends (outcome.SinkFault at) j t failed fails run none named counted shows = absurd (fails_some failed fails run.5 none)

  pub ends_as : (o : Outcome) (k j : ℕ) (t : State) (failed fails : ℕ) → k ≡ 0 → IsRun signals k n s o j t failed fails → fails ≡ 0 → d.outcome ≡ o → d.steps ≡ j → Shows t (run_data d) → HasRunFrom signals s n d t
  ends_as o k j t failed fails first run none named counted shows = ends o j t failed fails (subst (λ (x : ℕ). IsRun signals x n s o j t failed fails) first run) none named counted shows

-- the run of a board that began as a program does
module _ (page0 page1 : finite.FinMap nat_cmp ℕ) (marks : List Mark) (run_marks : List RunMark) (samples : List Sample) (given : List ScheduleEntry) (n : ℕ) where
  has_run : (entries : List ScheduleEntry) (d : RunResult) (s t : State) → entries ≡ given → s ≡ first_of_pages page0 page1 marks run_marks (samples_at samples)
      → HasRunFrom (signals_of entries) s n d t → HasRun page0 page1 marks run_marks samples given n d
  has_run entries d s t same begin h =
      let under = subst (λ (es : List ScheduleEntry). Runs WordStep (signals_of es) 0 n s h.end) same h.run in
      (h.end, subst (λ (x : State). Runs WordStep (signals_of given) 0 n x h.end) begin under, h.ends)

  pub runs_program : (entries : List ScheduleEntry) (result : Result RunResult NoMemory) (s t : State) → entries ≡ given → s ≡ first_of_pages page0 page1 marks run_marks (samples_at samples)
      → IfOk result (λ d. HasRunFrom (signals_of entries) s n d t) → IfOk result (HasRun page0 page1 marks run_marks samples given n)
  runs_program entries (Ok d) s t same begin h = has_run entries d s t same begin h
  runs_program entries (Err refused) s t same begin h = tt
