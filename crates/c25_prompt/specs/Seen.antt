-- How runs of a board at the prompt stand for those of the definitions.
use Rattle.std.specs.Prelude.{ℕ, ◌==◌, Bool, not, List, find, map, Option, Some, None, is_some}
use Rattle.c25_board.specs.declared.board.Outcome.{Outcome}
use Rattle.c25_board.specs.declared.board.Outcome.TheVariants as outcome
use Rattle.c25_board.specs.declared.run_to.Halted.{Halted}
use Rattle.c25_board.specs.declared.run_to.Halted.TheVariants as halted
use Rattle.c25_meaning_processor.specs.Goes as goes
use Rattle.c25_meaning_processor.specs.Run.{Signals}
use Rattle.c25_meaning_processor.specs.State.{State}
use Rattle.c25_meaning_processor.specs.WordStep.{WordStep}
use Rattle.c25_prompt.specs.declared.ended.Ended.{Ended}
use Rattle.c25_prompt.specs.declared.ended.Ended.TheVariants as ended
use Rattle.c25_prompt.specs.declared.watched.Watched.{Watched}

-- the watched addresses with their words in a memory
abbrev pub seen : (watches : List ℕ) → (ℕ → ℕ) → List Watched
seen watches words = map (λ a. record { address = a; old = words a }) watches

-- the watched addresses of those with their words
abbrev pub addresses : List Watched → List ℕ
addresses watched = map (λ w. w.address) watched

-- no word was refused in a run that ended so
abbrev pub IsTaken : Halted → Type 0
IsTaken (halted.SinkFault at) = ⊥
IsTaken h = Unit {0}

-- no word was refused in a run without breakpoints that ended so
abbrev pub AreTaken : Outcome → Type 0
AreTaken (outcome.SinkFault at) = ⊥
AreTaken o = Unit {0}

-- how a run that watches nothing ended
abbrev pub ended_of : Halted → Ended
ended_of halted.Ran = ended.Ran
ended_of halted.Met = ended.Met
ended_of (halted.Left at stop) = ended.Left stop
ended_of (halted.SinkFault at) = ended.Ran

-- how a run without breakpoints that watches nothing ended
abbrev pub ended_freely : Outcome → Ended
ended_freely outcome.Ran = ended.Ran
ended_freely (outcome.Left at stop) = ended.Left stop
ended_freely (outcome.SinkFault at) = ended.Ran

-- a run of a debugger's script ends so
abbrev pub GoesUnwatched : Signals → (breaks : List ℕ) → ℕ → ℕ → State → Ended → ℕ → State → Type 0
GoesUnwatched signals breaks k n s ended.Ran j t = goes.Goes WordStep signals breaks k n s goes.Ran j t
GoesUnwatched signals breaks k n s ended.Met j t = goes.Goes WordStep signals breaks k n s goes.Met j t
GoesUnwatched signals breaks k n s (ended.Left stop) j t = goes.Goes WordStep signals breaks k n s (goes.Left stop) j t
GoesUnwatched signals breaks k n s (ended.Changed address old new) j t = ⊥
GoesUnwatched signals breaks k n s ended.Full j t = ⊥

-- how a step ended, after which the first of the watched words may be another
abbrev pub ended_changed : (words : ℕ → ℕ) → Option Watched → Ended → Ended
ended_changed words None e = e
ended_changed words (Some w) e = ended.Changed w.address w.old (words w.address)

-- how a step ended, after which a watched word may be another
abbrev pub ended_watched : (words : ℕ → ℕ) → List Watched → Ended → Ended
ended_watched words watched e = ended_changed words (find (λ w. not (words w.address == w.old)) watched) e

-- whether a watched word is another
abbrev pub are_changed : (words : ℕ → ℕ) → List Watched → Bool
are_changed words watched = is_some (find (λ w. not (words w.address == w.old)) watched)
