-- Lines that are answered one by one, each before the next is read (this project's own).
use Rattle.std.specs.Prelude.{◌≡◌, ◌<◌, ℕ, zero, suc, Bool, true, false, IfSome, List, length, Option, Some, Result, Ok}
use Rattle.std.specs.Io.BufRead.{DropsThrough, take_through}
use Rattle.std.specs.Io.KnownBytes.{Appends}
use Rattle.c25_meaning_processor.specs.Run.{Signals, Stepping}
use Rattle.c25_meaning_processor.specs.State.{State}
use Rattle.c25_prompt_lines.specs.Addresses.{ProgramData}
use Rattle.c25_prompt_lines.specs.Commands.{command_of}
use Rattle.c25_prompt.specs.Session.{LineAnswers, SessionPoint, here}
use Rattle.c25_prompt_lines.specs.declared.command.PromptCommand.TheVariants as prompt
use Rattle.c25_prompt_lines.specs.declared.command.SessionCommand.{SessionCommand}
use Rattle.c25_prompt_lines.specs.declared.command.SessionCommand.TheVariants as session
use Rattle.c25_prompt_lines.specs.declared.command.Wrong.{Wrong}

-- whether what was read is the command that ends the session
abbrev pub is_quit : Result (Option SessionCommand) Wrong → Bool
is_quit (Ok (Some (session.Plain prompt.Quit))) = true
is_quit _ = false

-- where a conversation stands: what a reader has left and what a writer holds, where they are known, and the
-- point of the session
pub record Standing : Type 0 where
  pub left : Option (List ℕ)
  pub written : Option (List ℕ)
  pub point : SessionPoint

-- the next line is read, with the LF that ends it, or all that is left where there is no LF; the reader has
-- lost the line and nothing else
abbrev pub ReadsLine : (before after : Option (List ℕ)) → (line : List ℕ) → Type 0
ReadsLine before after line = IfSome before (λ left. line ≡ take_through 10 left) × DropsThrough before after 10

-- a line is read and answered: the writer has its answer, and nothing else was read or written
pub record Turns (step : Stepping) (signals : Signals) (program : ProgramData) (first : State) (ends : Bool) (before after : Standing) : Type 0 where
  pub line : List ℕ
  pub some : 0 < length line
  pub read : ReadsLine before.left after.left line
  pub text : List ℕ
  pub answers : LineAnswers step signals program first line before.point text after.point
  pub written : Appends before.written after.written text
  pub quits : ends ≡ is_quit (command_of program (here program before.point) line)

-- n lines are answered, each before the next is read: the answer to each stands with the writer when the
-- reader still has the whole next line; none of them is the command that ends the session
abbrev pub AnswersEach : Stepping → Signals → ProgramData → (first : State) → ℕ → Standing → Standing → Type 0
AnswersEach step signals program first zero before after = before ≡ after
AnswersEach step signals program first (suc n) before after =
    (between : Standing) × AnswersEach step signals program first n before between × Turns step signals program first false between after
