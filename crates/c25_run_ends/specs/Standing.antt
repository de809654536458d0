-- Where a run stands before a step, as the debugger's `where` shows it.
use Rattle.std.specs.Prelude.{◌≡◌, ℕ, zero, suc, List, []}
use Rattle.c25_meaning_debugger.specs.Debugger.{IsWhereBy}
use Rattle.c25_meaning_linking.specs.Linking.{ImageData}
use Rattle.c25_meaning_processor.specs.Run.{Reaches, Signals}
use Rattle.c25_meaning_processor.specs.State.{State}
use Rattle.c25_meaning_processor.specs.WordStep.{WordStep, mark_found}
use Rattle.c25_run_ends.specs.Texts.{before_text}

-- the line of the instruction at which a run stands in a state
abbrev pub StandsAt : ImageData → State → List ℕ → Type 0
StandsAt image s place = IsWhereBy image s (mark_found s.registers.cnf s.world s.registers.pc) place

-- the lines of the instruction at which a run from state s stands one step before step k; none before step 0
abbrev pub StoodBefore : Signals → ImageData → State → (k : ℕ) → List ℕ → Type 0
StoodBefore signals image s zero text = text ≡ []
StoodBefore signals image s (suc n) text =
    (u : State) × Reaches WordStep signals 0 n s u × ((place : List ℕ) × StandsAt image u place × (text ≡ before_text place))
