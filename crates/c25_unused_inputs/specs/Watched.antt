-- Interrupts of a run that could not be taken, since none of their line was enabled.
use Rattle.std.specs.Prelude.{◌≡◌, ℕ, ◌<◌, ◌≤◌, Bool, true, false, not, ◌&&◌, ◌||◌, Option, Some, None, nat_le, if◌then◌else◌}
use Rattle.c25_meaning_processor.specs.Run.{Reaches, Signals}
use Rattle.c25_meaning_processor.specs.State.{State}
use Rattle.c25_meaning_processor.specs.Status.{is_set, st0}
use Rattle.c25_meaning_processor.specs.Step.{has}
use Rattle.c25_meaning_processor.specs.WordStep.{WordStep}
use Rattle.c25_unused_inputs.specs.Requests.{bit_of}
use Rattle.c25_unused_inputs.specs.declared.requests.Request.{Request}
use Rattle.c25_unused_inputs.specs.declared.requests.Requests.{Requests}

-- whether the bit of a line is set in IMR, data word 4
abbrev pub is_unmasked : ℕ → State → Bool
is_unmasked bit s = has (s.world.words 4) bit

-- INTM, bit 9 of ST0
abbrev pub intm : State → Bool
intm s = is_set (st0 s.registers) 9

-- whether an interrupt of a line is enabled in a state
abbrev pub is_enabled : ℕ → State → Bool
is_enabled bit s = is_unmasked bit s && not (intm s)

-- the line is enabled before none of the steps from this one on, in a run of n steps from state s
abbrev pub StaysOff : Signals → (bit from n : ℕ) → State → Type 0
StaysOff signals bit from n s =
    (j : ℕ) (u : State) → from ≤ j → j < n → Reaches WordStep signals 0 j s u → is_enabled bit u ≡ false

-- it is enabled before one of them
pub record ComesOn (signals : Signals) (bit from n : ℕ) (s : State) : Type 0 where
  pub at : ℕ
  pub after : from ≤ at
  pub before : at < n
  pub state : State
  pub reached : Reaches WordStep signals 0 at s state
  pub on : is_enabled bit state ≡ true

-- whether a line was enabled before a step of a run, from this one on
abbrev pub Tells : Signals → (bit from n : ℕ) → State → (enabled : Bool) → Type 0
Tells signals bit from n s true = ComesOn signals bit from n s
Tells signals bit from n s false = StaysOff signals bit from n s

abbrev pub TellsSince : Signals → (bit : ℕ) → (last : Option ℕ) → (n : ℕ) → State → (enabled : Bool) → Type 0
TellsSince signals bit None n s enabled = enabled ≡ false
TellsSince signals bit (Some from) n s enabled = Tells signals bit from n s enabled

-- a request knows whether its line was enabled before one of n steps, from the last one of its schedule on
abbrev pub Knows : Signals → ℕ → State → Request → Type 0
Knows signals n s r = TellsSince signals (bit_of r.line) r.last n s r.enabled

-- the same of three lines
pub record KnowAll (signals : Signals) (n : ℕ) (s : State) (rs : Requests) : Type 0 where
  pub int0 : Knows signals n s rs.int0
  pub int1 : Knows signals n s rs.int1
  pub int2 : Knows signals n s rs.int2

-- ---- one step more

-- whether a line was enabled since its last step, once it is known whether it is enabled before step n
abbrev pub enabled_after : (last : Option ℕ) → (n : ℕ) → (was on : Bool) → Bool
enabled_after None n was on = was
enabled_after (Some from) n was on = if nat_le from n then was || on else was

-- a request once the state before step n was looked at
abbrev pub looked : ℕ → State → Request → Request
looked n u r = record r { enabled = enabled_after r.last n r.enabled (is_enabled (bit_of r.line) u) }

abbrev pub all_looked : ℕ → State → Requests → Requests
all_looked n u rs = record { int0 = looked n u rs.int0; int1 = looked n u rs.int1; int2 = looked n u rs.int2 }
