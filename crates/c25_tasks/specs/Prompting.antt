-- The task `debug` at the prompt: the commands of standard input are answered, each before the next is read.
use Rattle.std.specs.Prelude.{◌≡◌, ℕ, List, [], Option, Result, Ok, Err}
use Rattle.std.specs.Io.KnownBytes.{Keeps}
use Rattle.c25_chain.specs.Refusal.{Fault, IsRefusedAs}
use Rattle.c25_disk.specs.Held.{Held}
use Rattle.c25_inputs.specs.Files.{SourceNames}
use Rattle.c25_source_notes.specs.declared.notes.SourceNotes.{SourceNotes}
use Rattle.c25_options.specs.declared.task.RunFiles.{RunFiles}
use Rattle.c25_prompt.specs.declared.conversation.Broken.TheVariants.{NoMemory, Unread, Unwritten}
use Rattle.c25_prompting.specs.Prompting.{PromptsFrom, SessionEnd}
use Rattle.c25_prompting.specs.Unread.{unread_input}
use Rattle.c25_report.specs.declared.ending.Ending.{Ending}
use Rattle.c25_report.specs.declared.ending.Ending.TheVariants as ending
use Rattle.c25_tasks.specs.Tells.{IsReportOf, Printed}

-- the report of a session: all lines were answered; memory ran out; standard output cannot be written; or standard
-- input cannot be read, which is a fault
abbrev pub TellsSession : Held → SourceNotes → SessionEnd → Ending → (note : List ℕ) → Type 0
TellsSession held notes (Ok done) e note = (e ≡ ending.Done) × (note ≡ [])
TellsSession held notes (Err (NoMemory n)) e note = (e ≡ ending.NoMemory n) × (note ≡ [])
TellsSession held notes (Err Unwritten) e note = (e ≡ ending.Unprinted) × (note ≡ [])
TellsSession held notes (Err Unread) e note = (fault : Fault) × IsRefusedAs unread_input fault × IsReportOf held notes fault e note

-- the report of a session, or that of the first fault, where nothing goes to standard output
abbrev pub TellsPrompt : Held → SourceNotes → Result SessionEnd Fault → Ending → (note : List ℕ) → Printed → Type 0
TellsPrompt held notes (Ok ended) e note out = TellsSession held notes ended e note
TellsPrompt held notes (Err fault) e note out = IsReportOf held notes fault e note × Keeps out.0 out.1

-- the lines of standard input are answered over the program of the sources, or why they are not is reported
abbrev pub PromptsTold : Held → SourceNotes → SourceNames → RunFiles → (input : Option (List ℕ)) → Ending → (note : List ℕ) → Printed → Type 0
PromptsTold held notes sources files input e note out =
    (answer : Result SessionEnd Fault) × PromptsFrom held sources files input out.0 out.1 answer × TellsPrompt held notes answer e note out
