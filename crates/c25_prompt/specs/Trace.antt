-- The jumps of the run so far, from its first state on, whatever one step is (this project's own).
use Rattle.std.specs.Prelude.{◌≡◌, ℕ, zero, suc, ◌+◌, ◌-◌, ◌%◌, List, [], ◌∷◌, ◌++◌, Option, Some, None, Ok, nat_le, if◌then◌else◌}
use Rattle.c25_meaning_linking.specs.Linking.{ImageData}
use Rattle.c25_meaning_processor.specs.Run.{Signals, Stepping}
use Rattle.c25_meaning_processor.specs.State.{State}
use Rattle.c25_prompt.specs.Lasts.{last_of}
use Rattle.c25_prompt_texts.specs.Jumps.{jumps_text}
use Rattle.c25_prompt_texts.specs.declared.jumps.Jump.{Jump}

-- how many words on an address is from another, around the end of the memory
abbrev pub words_on : (from to : ℕ) → ℕ
words_on from to = (to + (65536 - from)) % 65536

-- the jump of a step with which so many are done, if it leads neither to the same address nor one or two words on
abbrev pub jump_of : (steps from to : ℕ) → Option Jump
jump_of steps from to = if nat_le (words_on from to) 2 then None else Some (record { steps = steps; from = from; to = to })

-- jumps, and one more, if there is one
abbrev pub and_jump : List Jump → Option Jump → List Jump
and_jump jumps None = jumps
and_jump jumps (Some j) = jumps ++ j ∷ []

-- n steps, the first of them step k, lead from s to t, and these are the jumps among them
abbrev pub Jumps : Stepping → Signals → ℕ → ℕ → State → List Jump → State → Type 0
Jumps step signals k zero s jumps t = (s ≡ t) × (jumps ≡ [])
Jumps step signals k (suc n) s jumps t =
    (u : State) × (before : List Jump) × Jumps step signals k n s before u × step (signals.lines (k + n)) (signals.bio (k + n)) u (Ok t)
    × (jumps ≡ and_jump before (jump_of (k + n + 1) u.registers.pc t.registers.pc))

-- a text has the lines of the last `most` jumps of n steps from the first state on
abbrev pub IsTrace : Stepping → Signals → ImageData → (first : State) → (n most : ℕ) → List ℕ → Type 0
IsTrace step signals image first n most text =
    (jumps : List Jump) × (last : State) × Jumps step signals 0 n first jumps last × (text ≡ jumps_text image (last_of most jumps))
