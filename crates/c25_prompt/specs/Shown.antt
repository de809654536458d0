-- What `print` shows at a state.
use Rattle.std.specs.Prelude.{ℕ, List}
use Rattle.c25_meaning_debugger.specs.Debugger.{data_word}
use Rattle.c25_meaning_processor.specs.State.{State}
use Rattle.c25_prompt_lines.specs.declared.command.Shown.{Shown}
use Rattle.c25_prompt_lines.specs.declared.command.Shown.TheVariants as shown
use Rattle.c25_prompt_texts.specs.Values.{value_text, word_text}

-- a number in several forms, or the address and the word of data memory there, as the processor reads it
abbrev pub shown_text : State → Shown → List ℕ
shown_text s (shown.Number number) = value_text number
shown_text s (shown.Word address) = word_text address (data_word s address)
