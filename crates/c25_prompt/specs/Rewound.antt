-- The way back to a breakpoint or a watch, and single steps done again, as the code has them.
use Rattle.std.specs.Prelude.{◌≡◌, ℕ, ◌+◌, List, Ok}
use Rattle.c25_meaning_processor.specs.Run.{Signals}
use Rattle.c25_meaning_processor.specs.Signals.{signals_of}
use Rattle.c25_meaning_processor.specs.State.{State}
use Rattle.c25_meaning_processor.specs.WordStep.{WordStep}
use Rattle.c25_meaning_processor.specs.declared.schedule.ScheduleEntry.{ScheduleEntry}
use Rattle.c25_prompt.specs.Past.{StopsLast}
use Rattle.c25_prompt.specs.declared.rewinding.Stopped.{Stopped}

-- where a run of n steps from the first state on last stopped
abbrev pub IsLastStop : List ScheduleEntry → (breaks watches : List ℕ) → (first : State) → ℕ → Stopped → Type 0
IsLastStop schedule breaks watches first n last =
    (t : State) × StopsLast WordStep (signals_of schedule) breaks watches first n last.ended last.steps t

-- step k leads from s to t
pub record IsStep (signals : Signals) (k : ℕ) (s : State) (j : ℕ) (t : State) : Type 0 where
  pub steps : WordStep (signals.lines k) (signals.bio k) s (Ok t)
  pub at : j ≡ k + 1
