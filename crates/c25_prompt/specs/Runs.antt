-- Runs at the prompt, which stop at breakpoints and after steps that change watched words (this project's
-- own).
use Rattle.std.specs.Prelude.{◌≡◌, ℕ, zero, suc, ◌+◌, ◌<◌, ◌==◌, Bool, true, false, not, List, ◌++◌, codes, find, Option, Some, None, Ok, Err}
use Rattle.std.specs.Fmt.{decimal}
use Rattle.c25_meaning_common.specs.Digits.{four_digits}
use Rattle.c25_meaning_debugger.specs.Texts.{halting_text, set_text}
use Rattle.c25_meaning_processor.specs.Goes as goes
use Rattle.c25_meaning_processor.specs.Goes.{is_met}
use Rattle.c25_meaning_processor.specs.Run.{Signals, Stepping}
use Rattle.c25_meaning_processor.specs.State.{State}
use Rattle.c25_meaning_processor.specs.declared.stop.Stop.{Stop}
use Rattle.c25_prompt.specs.declared.ended.Ended.{Ended}
use Rattle.c25_prompt.specs.declared.ended.Ended.TheVariants as ended

-- the first of the watched data addresses whose words in two memories differ
abbrev pub changed : List ℕ → (old new : ℕ → ℕ) → Option ℕ
changed watches old new = find (λ a. not (new a == old a)) watches

-- a step leaves each watched word as it was; the memory's word counts, so that CNFP alone changes none
abbrev pub Leaves : List ℕ → (s t : State) → Type 0
Leaves watches s t = changed watches s.world.words t.world.words ≡ None

-- n steps, the first of them step k, lead from s to t, and after none of them a breakpoint is met or a
-- watched word is another; the state before the first step is not looked at, so that a run goes on from a
-- breakpoint
abbrev pub Passes : Stepping → Signals → (breaks watches : List ℕ) → ℕ → ℕ → State → State → Type 0
Passes step signals breaks watches k zero s t = s ≡ t
Passes step signals breaks watches k (suc n) s t =
    (u : State) × Passes step signals breaks watches k n s u × step (signals.lines (k + n)) (signals.bio (k + n)) u (Ok t) × (is_met breaks t ≡ false)
    × Leaves watches u t

-- of the n steps from step k on, step j - 1 leads from u to t, and those before it pass
pub record Passing (step : Stepping) (signals : Signals) (breaks watches : List ℕ) (k n : ℕ) (s : State) (j : ℕ) (u t : State) : Type 0 where
  pub done : ℕ
  pub before : done < n
  pub at : j ≡ k + done + 1
  pub passed : Passes step signals breaks watches k done s u
  pub steps : step (signals.lines (k + done)) (signals.bio (k + done)) u (Ok t)

-- of the n steps from step k on, the last that is done is the first after which a breakpoint is met, and it
-- leaves each watched word as it was
abbrev pub Meets : Stepping → Signals → (breaks watches : List ℕ) → ℕ → ℕ → State → ℕ → State → Type 0
Meets step signals breaks watches k n s j t =
    (u : State) × Passing step signals breaks watches k n s j u t × Leaves watches u t × (is_met breaks t ≡ true)

-- of the n steps from step k on, the last that is done is the first after which a watched word is another,
-- the first of them that of this address
abbrev pub Changes : Stepping → Signals → (breaks watches : List ℕ) → ℕ → ℕ → State → (address old new : ℕ) → ℕ → State → Type 0
Changes step signals breaks watches k n s address old new j t =
    (u : State) × Passing step signals breaks watches k n s j u t × (changed watches u.world.words t.world.words ≡ Some address)
    × (old ≡ u.world.words address) × (new ≡ t.world.words address)

-- of the n steps from step k on, step j stops in state t, and those before it pass
pub record Stops (step : Stepping) (signals : Signals) (breaks watches : List ℕ) (k n : ℕ) (s : State) (j : ℕ) (stop : Stop) (t : State) : Type 0 where
  pub done : ℕ
  pub before : done < n
  pub at : j ≡ k + done
  pub passed : Passes step signals breaks watches k done s t
  pub stops : step (signals.lines j) (signals.bio j) t (Err stop)

-- a run of n steps from step k on, begun in s: how it ends, with how many steps done in all (j, counted from
-- step 0), and in which state (t)
abbrev pub Goes : Stepping → Signals → (breaks watches : List ℕ) → ℕ → ℕ → State → Ended → ℕ → State → Type 0
Goes step signals breaks watches k n s ended.Ran j t = Passes step signals breaks watches k n s t × (j ≡ k + n)
Goes step signals breaks watches k n s ended.Met j t = Meets step signals breaks watches k n s j t
Goes step signals breaks watches k n s (ended.Left stop) j t = Stops step signals breaks watches k n s j stop t
Goes step signals breaks watches k n s (ended.Changed address old new) j t = Changes step signals breaks watches k n s address old new j t
Goes step signals breaks watches k n s ended.Full j t = ⊥

-- whether more steps may follow: all were done, and none was the last
abbrev pub may_go_on : Ended → Bool
may_go_on ended.Ran = true
may_go_on ended.Met = false
may_go_on (ended.Left stop) = false
may_go_on (ended.Changed address old new) = false
may_go_on ended.Full = false

-- the line that says how a run ended, with the number of steps done in all, or that it was not begun
abbrev pub end_text : Ended → ℕ → ℕ → List ℕ
end_text ended.Ran steps pc = halting_text goes.Ran steps pc
end_text ended.Met steps pc = halting_text goes.Met steps pc
end_text (ended.Left stop) steps pc = halting_text (goes.Left stop) steps pc
end_text (ended.Changed address old new) steps pc =
    codes "watch " ++ decimal steps ++ codes " " ++ four_digits address ++ codes " " ++ four_digits old ++ codes " " ++ four_digits new ++ codes "\n"
end_text ended.Full steps pc = set_text false 0
