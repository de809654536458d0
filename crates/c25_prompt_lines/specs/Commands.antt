-- The commands at the prompt: those of a script, with names and lines for addresses, and more (this project's
-- own).
use Rattle.std.specs.Prelude.{ℕ, ◌+◌, List, [], ◌∷◌, codes, Option, Some, None, ok_or, Result, Ok, Err, nat_le, if◌then◌else◌}
use Rattle.std.specs.Io.BufRead.{strip_last}
use Rattle.std.specs.Str.{str_eq_ignore_ascii_case}
use Rattle.c25_meaning_common.specs.Digits.{decimal_of}
use Rattle.c25_meaning_common.specs.Items.{line_words}
use Rattle.c25_meaning_common.specs.Results.{◌>>=◌}
use Rattle.c25_meaning_processor.specs.declared.script.Cmd.TheVariants as cmd
use Rattle.c25_prompt_lines.specs.Addresses.{ProgramData, address_of}
use Rattle.c25_prompt_lines.specs.Expressions.{HereData, shown_of}
use Rattle.c25_prompt_lines.specs.declared.command.PromptCommand.{PromptCommand}
use Rattle.c25_prompt_lines.specs.declared.command.PromptCommand.TheVariants as prompt
use Rattle.c25_prompt_lines.specs.declared.command.SessionCommand.{SessionCommand}
use Rattle.c25_prompt_lines.specs.declared.command.SessionCommand.TheVariants as session
use Rattle.c25_prompt_lines.specs.declared.command.Wrong.{Wrong}
use Rattle.c25_prompt_lines.specs.declared.command.Wrong.TheVariants as wrong
use Rattle.c25_prompt_lines.specs.declared.verb.Verb.{Verb}
use Rattle.c25_prompt_lines.specs.declared.verb.Verb.TheVariants as verb

-- the commands by their names, of which `next` has two
abbrev pub verbs : List (List ℕ × Verb)
verbs =
    (codes "step", verb.Step) ∷ (codes "run", verb.Run) ∷ (codes "break", verb.Break) ∷ (codes "clear", verb.Clear)
    ∷ (codes "regs", verb.Regs) ∷ (codes "data", verb.Data) ∷ (codes "prog", verb.Prog) ∷ (codes "stack", verb.Stack)
    ∷ (codes "where", verb.Where) ∷ (codes "list", verb.List) ∷ (codes "symbols", verb.Symbols) ∷ (codes "next", verb.Next) ∷ (codes "over", verb.Next)
    ∷ (codes "finish", verb.Finish) ∷ (codes "until", verb.Until) ∷ (codes "watch", verb.Watch) ∷ (codes "unwatch", verb.Unwatch)
    ∷ (codes "tbreak", verb.Once) ∷ (codes "ignore", verb.Ignore) ∷ (codes "back", verb.Back) ∷ (codes "restart", verb.Restart) ∷ (codes "rback", verb.BackTo)
    ∷ (codes "hits", verb.Hits) ∷ (codes "trace", verb.Trace) ∷ (codes "inputs", verb.Inputs) ∷ (codes "outputs", verb.Outputs) ∷ (codes "print", verb.Print) ∷ (codes "line", verb.Line)
    ∷ (codes "display", verb.Display) ∷ (codes "undisplay", verb.Undisplay) ∷ (codes "help", verb.Help) ∷ (codes "quit", verb.Quit) ∷ []

-- the first command of a list that has this name, letters in either case
abbrev pub verb_among : List ℕ → List (List ℕ × Verb) → Option Verb
verb_among word [] = None
verb_among word (v ∷ vs) = if str_eq_ignore_ascii_case word v.0 then Some v.1 else verb_among word vs

-- the command of this name, if there is one
unfoldable pub verb_of : List ℕ → Option Verb
verb_of word = verb_among word verbs

-- ---- operands

-- a count, in decimal
abbrev pub count_of : List ℕ → Result ℕ Wrong
count_of text = ok_or (decimal_of 4294967295 text) wrong.Count

-- a command with a count
abbrev pub counted : (ℕ → PromptCommand) → List ℕ → Result PromptCommand Wrong
counted make text = count_of text >>= λ n. Ok (make n)

-- a command with an address
abbrev pub addressed : ProgramData → (here : Option (List ℕ)) → (ℕ → PromptCommand) → List ℕ → Result PromptCommand Wrong
addressed p here make text = address_of p here text >>= λ a. Ok (make a)

-- an address and a count of words from there on, if all of them lie in the memory
abbrev pub within : ℕ → ℕ → Result (ℕ × ℕ) Wrong
within address count = if nat_le (address + count) 65536 then Ok (address, count) else Err wrong.Outside

-- a command with an address and a count
abbrev pub both : ProgramData → (here : Option (List ℕ)) → List ℕ → List ℕ → (ℕ → ℕ → Result PromptCommand Wrong) → Result PromptCommand Wrong
both p here address count make = address_of p here address >>= λ a. count_of count >>= λ n. make a n

-- ---- commands

-- the command of a name alone
unfoldable pub alone : Verb → Result PromptCommand Wrong
alone verb.Regs = Ok (prompt.Script cmd.Regs)
alone verb.Stack = Ok (prompt.Script cmd.Stack)
alone verb.Where = Ok (prompt.Script cmd.Where)
alone verb.Symbols = Ok (prompt.Script cmd.Symbols)
alone verb.Next = Ok (prompt.Next 1)
alone verb.Finish = Ok prompt.Finish
alone verb.Restart = Ok (prompt.Back 4294967295)
alone verb.BackTo = Ok prompt.BackTo
alone verb.Ignore = Ok prompt.Ignored
alone verb.Trace = Ok (prompt.Trace 10)
alone verb.Inputs = Ok prompt.Inputs
alone verb.Outputs = Ok (prompt.Outputs 4294967295)
alone verb.Help = Ok prompt.Help
alone verb.Quit = Ok prompt.Quit
alone _ = Err wrong.Operands

-- the command of a name and an operand
unfoldable pub with_one : ProgramData → (here : Option (List ℕ)) → Verb → List ℕ → Result PromptCommand Wrong
with_one p here verb.Step text = counted (λ n. prompt.Script (cmd.Step n)) text
with_one p here verb.Run text = counted (λ n. prompt.Script (cmd.Run n)) text
with_one p here verb.List text = counted (λ n. prompt.Script (cmd.List n)) text
with_one p here verb.Next text = counted prompt.Next text
with_one p here verb.Back text = counted prompt.Back text
with_one p here verb.Trace text = counted prompt.Trace text
with_one p here verb.Outputs text = counted prompt.Outputs text
with_one p here verb.Break text = addressed p here (λ a. prompt.Script (cmd.Break a)) text
with_one p here verb.Clear text = addressed p here (λ a. prompt.Script (cmd.Clear a)) text
with_one p here verb.Until text = addressed p here (λ a. prompt.Until a 4294967295) text
with_one p here verb.Watch text = addressed p here prompt.Watch text
with_one p here verb.Unwatch text = addressed p here prompt.Unwatch text
with_one p here verb.Hits text = addressed p here prompt.Hits text
with_one p here verb.Once text = addressed p here prompt.Once text
with_one p here _ text = Err wrong.Operands

-- the command of a name, an address and a count
unfoldable pub with_two : ProgramData → (here : Option (List ℕ)) → Verb → List ℕ → List ℕ → Result PromptCommand Wrong
with_two p here verb.Data address count = both p here address count (λ a n. within a n >>= λ r. Ok (prompt.Script (cmd.Data r.0 r.1)))
with_two p here verb.Prog address count = both p here address count (λ a n. within a n >>= λ r. Ok (prompt.Script (cmd.Prog r.0 r.1)))
with_two p here verb.Until address count = both p here address count (λ a n. Ok (prompt.Until a n))
with_two p here verb.Ignore address count = both p here address count (λ a n. Ok (prompt.Ignore a n))
with_two p here verb.List address count = both p here address count (λ a n. Ok (prompt.ListFrom a n))
with_two p here _ address count = Err wrong.Operands

-- the command of a name and its operands
abbrev pub with_operands : ProgramData → (here : Option (List ℕ)) → Verb → List (List ℕ) → Result PromptCommand Wrong
with_operands p here v [] = alone v
with_operands p here v (text ∷ []) = with_one p here v text
with_operands p here v (address ∷ count ∷ []) = with_two p here v address count
with_operands p here v _ = Err wrong.Operands

-- the command of `line` and its operands
abbrev pub line_command : List (List ℕ) → Result SessionCommand Wrong
line_command [] = Ok session.Line
line_command _ = Err wrong.Operands

-- the command of `print` and its operands
abbrev pub print_command : ProgramData → (here : HereData) → List (List ℕ) → Result SessionCommand Wrong
print_command p here (text ∷ []) = shown_of p here text >>= λ s. Ok (session.Plain (prompt.Print s))
print_command p here _ = Err wrong.Operands

-- the command of `display` and its operands
abbrev pub display_command : ProgramData → (here : HereData) → List (List ℕ) → Result SessionCommand Wrong
display_command p here [] = Ok session.Displayed
display_command p here (text ∷ []) = shown_of p here text >>= λ s. Ok (session.Display s)
display_command p here _ = Err wrong.Operands

-- the command of `undisplay` and its operands
abbrev pub undisplay_command : List (List ℕ) → Result SessionCommand Wrong
undisplay_command [] = Ok session.UndisplayAll
undisplay_command (text ∷ []) = count_of text >>= λ n. Ok (session.Undisplay n)
undisplay_command _ = Err wrong.Operands

-- the command of another name and its operands; `here` is the file of the instruction at PC, if it is known
abbrev pub plain_command : ProgramData → (here : Option (List ℕ)) → Verb → List (List ℕ) → Result SessionCommand Wrong
plain_command p here v operands = with_operands p here v operands >>= λ c. Ok (session.Plain c)

-- the command of a session, of a name and its operands
unfoldable pub session_command : ProgramData → (here : HereData) → Verb → List (List ℕ) → Result SessionCommand Wrong
session_command p here verb.Line operands = line_command operands
session_command p here verb.Print operands = print_command p here operands
session_command p here verb.Display operands = display_command p here operands
session_command p here verb.Undisplay operands = undisplay_command operands
session_command p here v operands = plain_command p here.file v operands

-- the command of a name, if there is one, and operands
abbrev pub named_command : ProgramData → (here : HereData) → Option Verb → List (List ℕ) → Result (Option SessionCommand) Wrong
named_command p here None operands = Err wrong.NoCommand
named_command p here (Some v) operands = session_command p here v operands >>= λ c. Ok (Some c)

-- the command of the fields of a line; a blank line is none
abbrev pub fields_command : ProgramData → (here : HereData) → List (List ℕ) → Result (Option SessionCommand) Wrong
fields_command p here [] = Ok None
fields_command p here (word ∷ operands) = named_command p here (verb_of word) operands

-- a line without the LF or CR LF that ends it
abbrev pub without_end : List ℕ → List ℕ
without_end line = strip_last 13 (strip_last 10 line)

-- the command of a line, or why it is wrong; `here` is where the processor stands
abbrev pub command_of : ProgramData → (here : HereData) → List ℕ → Result (Option SessionCommand) Wrong
command_of p here line = fields_command p here (line_words (without_end line))
