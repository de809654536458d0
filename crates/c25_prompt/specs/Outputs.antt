-- The outputs of the run so far, each with its step, from its first state on, whatever one step is (this project's own).
use Rattle.std.specs.Prelude.{◌≡◌, ℕ, zero, suc, ◌+◌, List, [], ◌++◌, Ok, map}
use Rattle.c25_meaning_processor.specs.Run.{Signals, Stepping}
use Rattle.c25_meaning_processor.specs.State.{State}
use Rattle.c25_prompt.specs.Lasts.{last_of}
use Rattle.c25_prompt_texts.specs.Outputs.{outputs_shown}
use Rattle.c25_prompt_texts.specs.declared.outputs.TimedOutput.{TimedOutput}

-- the outputs of a step with which so many are done
abbrev pub at_step : (steps : ℕ) → List (ℕ × ℕ) → List TimedOutput
at_step steps outputs = map (λ o. record { steps = steps; port = o.0; word = o.1 }) outputs

-- n steps, the first of them step k, lead from s to t, and these are their outputs: those of each step come after those
-- of the steps before it
abbrev pub PutOut : Stepping → Signals → ℕ → ℕ → State → List TimedOutput → State → Type 0
PutOut step signals k zero s outputs t = (s ≡ t) × (outputs ≡ [])
PutOut step signals k (suc n) s outputs t =
    (u : State) × (before : List TimedOutput) × (new : List (ℕ × ℕ)) × PutOut step signals k n s before u × step (signals.lines (k + n)) (signals.bio (k + n)) u (Ok t)
    × (t.world.outputs ≡ u.world.outputs ++ new) × (outputs ≡ before ++ at_step (k + n + 1) new)

-- a text has the lines of the last `most` outputs of n steps from the first state on
abbrev pub AreOutputs : Stepping → Signals → (first : State) → (n most : ℕ) → List ℕ → Type 0
AreOutputs step signals first n most text =
    (outputs : List TimedOutput) × (last : State) × PutOut step signals 0 n first outputs last × (text ≡ outputs_shown (last_of most outputs))
