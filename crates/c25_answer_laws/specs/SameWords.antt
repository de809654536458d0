-- Programs with the same words, and what their answers have in common.
use Rattle.std.specs.Prelude.{◌≡◌, ◌⊎◌, ◌≤◌, ◌++◌, ℕ, List}
use Rattle.c25_board.specs.declared.board.Outcome.TheVariants as outcome
use Rattle.c25_chain.specs.Run.{RunData}
use Rattle.c25_image_laws.specs.Agree.{IsByPlaces}
use Rattle.c25_meaning_linking.specs.Linking.{ImageData}
use Rattle.c25_meaning_processor.specs.FirstState.{memory_of_map}
use Rattle.c25_meaning_processor.specs.declared.stop.Stop.{Stop}

-- two programs load the same words into both memories; where a program has no word, 0 is loaded
pub record LoadAlike (one other : ImageData) : Type 0 where
  pub program : (address : ℕ) → memory_of_map one.program address ≡ memory_of_map other.program address
  pub store : (address : ℕ) → memory_of_map one.store address ≡ memory_of_map other.store address

-- a run stopped because of the places of instructions, not after the other run, whose outputs begin with its
-- own
pub record StoppedFirst (one other : RunData) : Type 0 where
  pub step : ℕ
  pub stop : Stop
  pub stopped : one.outcome ≡ outcome.Left step stop
  pub by_places : IsByPlaces stop
  pub sooner : one.steps ≤ other.steps
  pub later : List (ℕ × ℕ)
  pub outputs : other.outputs ≡ one.outputs ++ later

-- two runs did the same, or one of them stopped first
abbrev pub RunAlike : RunData → RunData → Type 0
RunAlike one other = (one ≡ other) ⊎ (StoppedFirst one other ⊎ StoppedFirst other one)
