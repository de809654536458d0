-- The way back, as the code has it.
use Rattle.std.specs.Prelude.{◌≡◌, ℕ, ◌+◌, ◌-◌, List}
use Rattle.c25_meaning_processor.specs.Run.{Reaches, Signals}
use Rattle.c25_meaning_processor.specs.Signals.{signals_of}
use Rattle.c25_meaning_processor.specs.State.{State}
use Rattle.c25_meaning_processor.specs.WordStep.{WordStep}
use Rattle.c25_meaning_processor.specs.declared.schedule.ScheduleEntry.{ScheduleEntry}
use Rattle.c25_prompt.specs.Runs.{end_text}
use Rattle.c25_prompt.specs.declared.ended.Ended.TheVariants as ended

-- n steps can be done from a first state on: a run has done them, or more
abbrev pub CanReach : List ScheduleEntry → ℕ → State → Type 0
CanReach entries n first = (m : ℕ) × (t : State) × Reaches WordStep (signals_of entries) 0 (n + m) first t

-- n steps before step k, as the run from the first state reached it, with this text
pub record IsBack (signals : Signals) (first : State) (n k : ℕ) (text : List ℕ) (j : ℕ) (t : State) : Type 0 where
  pub steps : j ≡ k - n
  pub reached : Reaches WordStep signals 0 j first t
  pub says : text ≡ end_text ended.Ran j t.registers.pc
