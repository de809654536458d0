-- A conversation at the prompt, as the code has it.
use Rattle.std.specs.Prelude.{◌≡◌, ℕ, Bool, true, false, List, Option}
use Rattle.std.specs.Io.KnownBytes.{IsAtEnd}
use Rattle.c25_meaning_processor.specs.Run.{Signals, Stepping}
use Rattle.c25_meaning_processor.specs.State.{State}
use Rattle.c25_prompt_lines.specs.Addresses.{ProgramData}
use Rattle.c25_prompt.specs.Each.{AnswersEach, Standing, Turns}
use Rattle.c25_prompt.specs.Session.{SessionPoint}
use Rattle.c25_prompt.specs.declared.conversation.Turn.{Turn}
use Rattle.c25_prompt.specs.declared.conversation.Turn.TheVariants as turn

-- where a conversation stands
abbrev pub standing : (left written : Option (List ℕ)) → SessionPoint → Standing
standing left written p = record { left = left; written = written; point = p }

-- there is no line left, and nothing is written
pub record IsOver (before after : Standing) : Type 0 where
  pub none : IsAtEnd before.left
  pub written : after.written ≡ before.written
  pub point : after.point ≡ before.point

-- how a line was answered, or that there is none
abbrev pub IsTurn : Stepping → Signals → ProgramData → (first : State) → Turn → Standing → Standing → Type 0
IsTurn step signals program first turn.Answered before after = Turns step signals program first false before after
IsTurn step signals program first turn.Quit before after = Turns step signals program first true before after
IsTurn step signals program first turn.End before after = IsOver before after

-- whether the conversation ends with this
abbrev pub is_end : Turn → Bool
is_end turn.Answered = false
is_end turn.Quit = true
is_end turn.End = true

-- all lines up to `quit` or to the last are answered, each before the next is read
pub record Converses (step : Stepping) (signals : Signals) (program : ProgramData) (first : State) (before after : Standing) : Type 0 where
  pub lines : ℕ
  pub between : Standing
  pub each : AnswersEach step signals program first lines before between
  pub end : Turn
  pub ends : is_end end ≡ true
  pub last : IsTurn step signals program first end between after
