-- Commands of a session, over the schedule with which it began.
use Rattle.std.proofs.Common.{◌≡◌, ℕ, List, subst, sym, ◌∙◌}
use Rattle.c25_meaning_linking.specs.Linking.{ImageData}
use Rattle.c25_meaning_processor.specs.Run.{Reaches}
use Rattle.c25_meaning_processor.specs.Signals.{signals_of}
use Rattle.c25_meaning_processor.specs.State.{State}
use Rattle.c25_meaning_processor.specs.WordStep.{WordStep}
use Rattle.c25_meaning_processor.specs.Run.{Signals}
use Rattle.c25_meaning_processor.specs.declared.schedule.ScheduleEntry.{ScheduleEntry}
use Rattle.c25_prompt.specs.Prompt.{PromptAnswers, PromptPoint}
use Rattle.c25_prompt.specs.Session.{IsOnRun}
use Rattle.c25_prompt_lines.specs.declared.command.PromptCommand.{PromptCommand}

-- no command over the words leaves the run
abbrev pub StayOnTheRun : Type 0
StayOnTheRun = (signals : Signals) (image : ImageData) (first : State) (c : PromptCommand) (p q : PromptPoint) (text : List ℕ)
    → PromptAnswers WordStep signals image first c p text q → Reaches WordStep signals 0 p.at.steps first p.at.state → Reaches WordStep signals 0 q.at.steps first q.at.state

module _ (schedule entries : List ScheduleEntry) (image : ImageData) (first : State) (c : PromptCommand) (p q : PromptPoint) (text : List ℕ) (before : IsOnRun schedule first entries p.at.steps p.at.state)
    (answers : PromptAnswers WordStep (signals_of entries) image first c p text q) where
  -- the answer is that of a run with the schedule
  pub over_schedule : PromptAnswers WordStep (signals_of schedule) image first c p text q
  over_schedule = subst (λ (es : List ScheduleEntry). PromptAnswers WordStep (signals_of es) image first c p text q) before.0 answers

  -- a board is on the run after it
  pub stays_on_run : StayOnTheRun → (after : List ScheduleEntry) → after ≡ entries → IsOnRun schedule first after q.at.steps q.at.state
  stays_on_run stay after same =
      (same ∙ before.0, subst (λ (es : List ScheduleEntry). Reaches WordStep (signals_of es) 0 q.at.steps first q.at.state) (sym same) (stay (signals_of entries) image first c p q text answers before.1))
