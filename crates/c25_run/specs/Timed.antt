-- The outputs of a run, each after the number of its step, and the text of a run (this project's own).
use Rattle.std.specs.Prelude.{◌≡◌, ℕ, zero, suc, ◌+◌, Bool, true, false, List, [], ◌++◌, Ok, codes, map}
use Rattle.std.specs.Fmt.{decimal}
use Rattle.std.specs.List.{flat_map}
use Rattle.c25_chain.specs.OutcomeText.{end_text, outcome_of, outcome_text, run_text, steps_of}
use Rattle.c25_chain.specs.declared.chain.Chain.{Chain}
use Rattle.c25_meaning_processor.specs.Run.{Ending, Left, Ran, Signals, Stepping}
use Rattle.c25_meaning_processor.specs.RunText.{output_line}
use Rattle.c25_meaning_processor.specs.State.{State}

-- the number of a step, counted from 0, and an output that the step put out: its port and its word
abbrev pub TimedOutput : Type 0
TimedOutput = ℕ × (ℕ × ℕ)

-- the outputs of a step of this number
abbrev pub at_step : ℕ → List (ℕ × ℕ) → List TimedOutput
at_step step outputs = map (λ output. (step, output)) outputs

-- n steps, the first of them step k, lead from s to t, and these are their outputs: those of each step come after those of the
-- steps before it
abbrev pub PutIn : Stepping → Signals → ℕ → ℕ → State → List TimedOutput → State → Type 0
PutIn step signals k zero s timed t = (s ≡ t) × (timed ≡ [])
PutIn step signals k (suc n) s timed t =
    (u : State)
    × (before : List TimedOutput)
    × (new : List (ℕ × ℕ))
    × PutIn step signals k n s before u
    × step (signals.lines (k + n)) (signals.bio (k + n)) u (Ok t)
    × (t.world.outputs ≡ u.world.outputs ++ new)
    × (timed ≡ before ++ at_step (k + n) new)

-- these are the outputs of the steps that are done of steps from the first on, begun in s, where they have this end
abbrev pub PutTo : Stepping → Signals → ℕ → State → List TimedOutput → Ending → Type 0
PutTo step signals n s timed (Ran t) = PutIn step signals 0 n s timed t
PutTo step signals n s timed (Left j stop t) = PutIn step signals 0 j s timed t

-- ---- the text of a run

-- the line of an output after the number of its step
abbrev pub timed_line : TimedOutput → List ℕ
timed_line timed = decimal timed.0 ++ codes " " ++ output_line timed.1

abbrev pub timed_text : List TimedOutput → List ℕ
timed_text timed = flat_map timed_line timed

-- the text of n steps with this end, begun in s: a line for each output, after the number of its step where `when` is asked for, and
-- then how the run ended
abbrev pub IsEndText : (when : Bool) → Stepping → Signals → ℕ → State → Ending → List ℕ → Type 0
IsEndText false step signals n s end text = text ≡ end_text n end
IsEndText true step signals n s end text =
    (timed : List TimedOutput) × PutTo step signals n s timed end × (text ≡ timed_text timed ++ outcome_text (outcome_of end) (steps_of n end))

-- the text of an answer: a line for each of its outputs, after the number of a step where `when` is asked for, and then how its run ended
abbrev pub IsAnswerText : (when : Bool) → Chain → List ℕ → Type 0
IsAnswerText false chain text = text ≡ run_text chain
IsAnswerText true chain text =
    (timed : List TimedOutput) × (map (λ output. output.1) timed ≡ chain.outputs.items) × (text ≡ timed_text timed ++ outcome_text chain.outcome chain.steps)
