-- What is known once steps of a board were tried.
use Rattle.std.specs.Prelude.{◌≡◌, ℕ, ◌+◌, Bool, true, false, Option, Some, None}
use Rattle.c25_meaning_processor.specs.Run.{Leaves, Reaches, Signals}
use Rattle.c25_meaning_processor.specs.State.{State}
use Rattle.c25_meaning_processor.specs.WordStep.{WordStep}
use Rattle.c25_meaning_processor.specs.declared.stop.Stop.{Stop}
use Rattle.c25_unused_inputs.specs.Requests.{unwatched}
use Rattle.c25_unused_inputs.specs.Watched.{KnowAll}
use Rattle.c25_unused_inputs.specs.declared.requests.Requests.{Requests}

-- one of k steps from state s on stops
abbrev pub StopsWithin : Signals → ℕ → State → Type 0
StopsWithin signals k s = (j : ℕ) × (stop : Stop) × (t : State) × Leaves WordStep signals 0 k s j stop t

-- whether n steps from step m on, begun in state s, are all done: then they lead to state t, and j steps are done in all
abbrev pub Goes : Signals → (m n : ℕ) → State → (j : ℕ) → State → (all : Bool) → Type 0
Goes signals m n s j t true = Reaches WordStep signals m n s t × (j ≡ m + n)
Goes signals m n s j t false = (at : ℕ) × (stop : Stop) × (u : State) × Leaves WordStep signals m n s at stop u

-- k steps from state s on, of which j are done, lead to state t, and of the lines is known what the run shows
pub record HasCome (signals : Signals) (k : ℕ) (s : State) (j : ℕ) (t : State) (given rs : Requests) : Type 0 where
  pub reached : Reaches WordStep signals 0 k s t
  pub known : KnowAll signals k s rs
  pub same : unwatched rs ≡ unwatched given
  pub count : j ≡ k

-- or one of them stops
abbrev pub Watches : Signals → (k : ℕ) → State → (j : ℕ) → State → (given : Requests) → Option Requests → Type 0
Watches signals k s j t given (Some rs) = HasCome signals k s j t given rs
Watches signals k s j t given None = StopsWithin signals k s
