-- Commands and lines of a session at the prompt, answered one by one.
use Rattle.std.specs.Prelude.{◌≡◌, ℕ, Bool, true, false, List, [], ◌++◌, Option, Some, None, option_map, Result, Ok, Err, if◌then◌else◌}
use Rattle.c25_meaning_linking.specs.Linking.{ImageData, line_at}
use Rattle.c25_meaning_processor.specs.Run.{Reaches, Signals, Stepping}
use Rattle.c25_meaning_processor.specs.Signals.{signals_of}
use Rattle.c25_meaning_processor.specs.State.{State}
use Rattle.c25_meaning_processor.specs.WordStep.{WordStep}
use Rattle.c25_meaning_processor.specs.declared.schedule.ScheduleEntry.{ScheduleEntry}
use Rattle.c25_meaning_processor.specs.declared.script.Cmd.TheVariants as cmd
use Rattle.c25_prompt.specs.Displays.{DisplayData, all_undisplayed, display_text, displays_text, is_displayed, no_displays, undisplayed_text, with_display, without_display, without_displays}
use Rattle.c25_prompt.specs.Prompt.{PromptAnswers, PromptPoint, first_point}
use Rattle.c25_prompt.specs.Source.{AreLinesThere}
use Rattle.c25_prompt_lines.specs.Addresses.{ProgramData}
use Rattle.c25_prompt_lines.specs.Commands.{command_of}
use Rattle.c25_prompt_lines.specs.Expressions.{HereData}
use Rattle.c25_prompt_lines.specs.Wrong.{wrong_line}
use Rattle.c25_prompt_lines.specs.declared.command.PromptCommand.{PromptCommand}
use Rattle.c25_prompt_lines.specs.declared.command.PromptCommand.TheVariants as prompt
use Rattle.c25_prompt_lines.specs.declared.command.SessionCommand.{SessionCommand}
use Rattle.c25_prompt_lines.specs.declared.command.SessionCommand.TheVariants as session
use Rattle.c25_prompt_lines.specs.declared.command.Wrong.{Wrong}

-- a point of a session: that of the prompt, and what is displayed
pub record SessionPoint : Type 0 where
  pub point : PromptPoint
  pub displays : DisplayData

-- the point at which a session begins
abbrev pub first_session : State → SessionPoint
first_session s = record { point = first_point s; displays = no_displays }

-- a board with this schedule is where the run from the first state is after so many steps
abbrev pub IsOnRun : (schedule : List ScheduleEntry) → (first : State) → (entries : List ScheduleEntry) → ℕ → State → Type 0
IsOnRun schedule first entries steps s = (entries ≡ schedule) × Reaches WordStep (signals_of entries) 0 steps first s

-- ---- commands

-- whether a command does steps or goes back
abbrev pub moves : PromptCommand → Bool
moves (prompt.Script (cmd.Step n)) = true
moves (prompt.Script (cmd.Run n)) = true
moves (prompt.Next n) = true
moves prompt.Finish = true
moves (prompt.Until address n) = true
moves (prompt.Back n) = true
moves prompt.BackTo = true
moves _ = false

-- what is displayed after a command that led to this state
abbrev pub shown_after : PromptCommand → State → DisplayData → List ℕ
shown_after c s displays = if moves c then displays_text s displays else []

-- a command of the prompt has this answer, and what is displayed comes after it
abbrev pub PlainAnswers : Stepping → Signals → ProgramData → (first : State) → PromptCommand → SessionPoint → List ℕ → SessionPoint → Type 0
PlainAnswers step signals program first c p text q =
    (told : List ℕ) × PromptAnswers step signals program.image first c p.point told q.point × (q.displays ≡ p.displays) × (text ≡ told ++ shown_after c q.point.at.state q.displays)

-- what a command of a session answers at a point of a run from the first state on, and the point after it
abbrev pub SessionAnswers : Stepping → Signals → ProgramData → (first : State) → SessionCommand → SessionPoint → List ℕ → SessionPoint → Type 0
SessionAnswers step signals program first (session.Plain c) p text q = PlainAnswers step signals program first c p text q
SessionAnswers step signals program first session.Line p text q = AreLinesThere program p.point.at.state text × (q ≡ p)
SessionAnswers step signals program first (session.Display what) p text q =
    (text ≡ display_text p.point.at.state p.displays what) × (q ≡ record p { displays = with_display p.displays what })
SessionAnswers step signals program first session.Displayed p text q = (text ≡ displays_text p.point.at.state p.displays) × (q ≡ p)
SessionAnswers step signals program first (session.Undisplay number) p text q =
    (text ≡ undisplayed_text (is_displayed p.displays number) number) × (q ≡ record p { displays = without_display p.displays number })
SessionAnswers step signals program first session.UndisplayAll p text q =
    (text ≡ all_undisplayed p.displays) × (q ≡ record p { displays = without_displays p.displays })

-- ---- lines

-- what a line that was read answers: nothing where it is blank, what its command answers, or why it is wrong
abbrev pub ReadAnswers : Stepping → Signals → ProgramData → (first : State) → Result (Option SessionCommand) Wrong → SessionPoint → List ℕ → SessionPoint → Type 0
ReadAnswers step signals program first (Ok None) p text q = (text ≡ []) × (q ≡ p)
ReadAnswers step signals program first (Ok (Some c)) p text q = SessionAnswers step signals program first c p text q
ReadAnswers step signals program first (Err wrong) p text q = (text ≡ wrong_line wrong) × (q ≡ p)

-- where the processor stands in an image when an address is in PC: with the file of the instruction there, if it is
-- known
abbrev pub here_at : ImageData → (pc : ℕ) → HereData
here_at image pc = record { pc = pc; file = option_map (λ r. r.0) (line_at pc image.lines) }

-- where the processor stands at a point
abbrev pub here : ProgramData → SessionPoint → HereData
here program p = here_at program.image p.point.at.state.registers.pc

-- what a line answers at a point, and the point after it
abbrev pub LineAnswers : Stepping → Signals → ProgramData → (first : State) → (line : List ℕ) → SessionPoint → List ℕ → SessionPoint → Type 0
LineAnswers step signals program first line p text q = ReadAnswers step signals program first (command_of program (here program p) line) p text q
