-- Commands that show only words within the memory.
use Rattle.std.specs.Prelude.{◌+◌, ◌≤◌}
use Rattle.c25_meaning_processor.specs.declared.script.Cmd.TheVariants as cmd
use Rattle.c25_prompt_lines.specs.declared.command.PromptCommand.{PromptCommand}
use Rattle.c25_prompt_lines.specs.declared.command.PromptCommand.TheVariants as prompt
use Rattle.c25_prompt_lines.specs.declared.command.SessionCommand.{SessionCommand}
use Rattle.c25_prompt_lines.specs.declared.command.SessionCommand.TheVariants as session

-- the words that a command shows end within the 65,536 of their memory
abbrev pub IsWithinPrompt : PromptCommand → Type 0
IsWithinPrompt (prompt.Script (cmd.Data address count)) = address + count ≤ 65536
IsWithinPrompt (prompt.Script (cmd.Prog address count)) = address + count ≤ 65536
IsWithinPrompt _ = Unit {0}

-- the words that a command of a session shows end within the 65,536 of their memory
abbrev pub IsWithinSession : SessionCommand → Type 0
IsWithinSession (session.Plain c) = IsWithinPrompt c
IsWithinSession _ = Unit {0}
