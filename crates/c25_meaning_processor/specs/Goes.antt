-- Runs that end at a breakpoint (this project's own).
use Rattle.std.specs.Prelude.{◌≡◌, ℕ, zero, suc, ◌+◌, ◌<◌, ◌==◌, Bool, true, false, ◌&&◌, not, List, Ok, Err}
use Rattle.std.specs.List.{list_any}
use Rattle.c25_meaning_processor.specs.declared.stop.Stop.{Stop}
use Rattle.c25_meaning_processor.specs.State.{State}
use Rattle.c25_meaning_processor.specs.Run.{Signals, Stepping}

-- whether a program address is one of these breakpoints
abbrev pub is_breakpoint : List ℕ → ℕ → Bool
is_breakpoint breaks address = list_any (λ b. b == address) breaks

-- whether a breakpoint is met in a state: PC is a breakpoint, no repeat is running and IDLE is not waiting,
-- so that the next step begins the instruction there, unless it takes an interrupt
abbrev pub is_met : List ℕ → State → Bool
is_met breaks s = not s.registers.repeating && not s.registers.asleep && is_breakpoint breaks s.registers.pc

-- n steps, the first of them step k, lead from s to t, and after none of them a breakpoint is met; the state
-- before the first step is not looked at, so that a run goes on from a breakpoint
abbrev pub Passes : Stepping → Signals → List ℕ → ℕ → ℕ → State → State → Type 0
Passes step signals breaks k zero s t = s ≡ t
Passes step signals breaks k (suc n) s t =
    (u : State) × Passes step signals breaks k n s u × step (signals.lines (k + n)) (signals.bio (k + n)) u (Ok t) × (is_met breaks t ≡ false)

-- how a run with breakpoints ends: all steps were done and no breakpoint was met, or one was met after one of
-- the steps, which may be the last, or a step stopped
pub data Halting : Type 0 where
  Ran : Halting
  Met : Halting
  Left : (stop : Stop) → Halting

-- of the n steps from step k on, step j - 1 is the first after which a breakpoint is met, in state t
pub record Meets (step : Stepping) (signals : Signals) (breaks : List ℕ) (k n : ℕ) (s : State) (j : ℕ) (t : State) : Type 0 where
  pub done : ℕ
  pub before : done < n
  pub at : j ≡ k + done + 1
  pub last : State
  pub passed : Passes step signals breaks k done s last
  pub steps : step (signals.lines (k + done)) (signals.bio (k + done)) last (Ok t)
  pub met : is_met breaks t ≡ true

-- of the n steps from step k on, step j stops in state t, and after none before it a breakpoint is met
pub record Stops (step : Stepping) (signals : Signals) (breaks : List ℕ) (k n : ℕ) (s : State) (j : ℕ) (stop : Stop) (t : State) : Type 0 where
  pub done : ℕ
  pub before : done < n
  pub at : j ≡ k + done
  pub passed : Passes step signals breaks k done s t
  pub stops : step (signals.lines j) (signals.bio j) t (Err stop)

-- a run of n steps from step k on, begun in s: how it ends, with how many steps done in all (j, counted from
-- step 0), and in which state (t)
abbrev pub Goes : Stepping → Signals → List ℕ → ℕ → ℕ → State → Halting → ℕ → State → Type 0
Goes step signals breaks k n s Ran j t = Passes step signals breaks k n s t × (j ≡ k + n)
Goes step signals breaks k n s Met j t = Meets step signals breaks k n s j t
Goes step signals breaks k n s (Left stop) j t = Stops step signals breaks k n s j stop t
