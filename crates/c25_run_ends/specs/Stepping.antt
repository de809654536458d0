-- What is known once the steps of a run were tried.
use Rattle.std.specs.Prelude.{◌≡◌, ℕ, List, [], Option, Some, None}
use Rattle.c25_meaning_linking.specs.Linking.{ImageData}
use Rattle.c25_meaning_processor.specs.Run.{Signals}
use Rattle.c25_meaning_processor.specs.State.{State}
use Rattle.c25_run_ends.specs.EndNote.{EndsAs}
use Rattle.c25_run_ends.specs.Standing.{StoodBefore}
use Rattle.c25_unused_inputs.specs.Stepping.{HasCome, StopsWithin}
use Rattle.c25_unused_inputs.specs.declared.requests.Requests.{Requests}
use Rattle.c25_unused_inputs.specs.declared.requests.RunEnd.{RunEnd}

-- lines, with what is known of the interrupt lines
abbrev pub Known : Type 0
Known = List ℕ × Requests

-- k steps, of which j are done, lead from state s to state t, and these are the lines of the instruction at which the run
-- stood one step before, with what is known of the interrupt lines; or one of them stops
abbrev pub Arrives : Signals → ImageData → State → (k j : ℕ) → State → (given : Requests) → Option Known → Type 0
Arrives signals image s k j t given (Some known) = HasCome signals k s j t given known.1 × StoodBefore signals image s k known.0
Arrives signals image s k j t given None = StopsWithin signals k s

-- the same without a line
abbrev pub Comes : Signals → (k : ℕ) → State → (j : ℕ) → State → (given : Requests) → Option Known → Type 0
Comes signals k s j t given (Some known) = HasCome signals k s j t given known.1 × (known.0 ≡ [])
Comes signals k s j t given None = StopsWithin signals k s

-- the same with the lines of how the run ended
abbrev pub Ends : Signals → ImageData → (had : List ℕ) → State → RunEnd → (j : ℕ) → State → (given : Requests) → Option Known → Type 0
Ends signals image had s end j t given (Some known) = HasCome signals end.steps s j t given known.1 × EndsAs signals image had s end.steps end.stop known.0
Ends signals image had s end j t given None = StopsWithin signals end.steps s
