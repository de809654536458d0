-- The task `debug`: a debugging session with sources on a disk.
use Rattle.std.specs.Prelude.{◌≡◌, ℕ, Bool, true, false, List, [], ◌∷◌, Option, Some, None, Result, String}
use Rattle.std.specs.Io.KnownBytes.{Keeps}
use Rattle.std.specs.declared.alloc.Global.{Global}
use Rattle.c25_chain.specs.Chain.{given_of}
use Rattle.c25_chain.specs.Refusal.{Fault}
use Rattle.c25_chain.specs.Debug.{Debugs}
use Rattle.c25_disk.specs.Held.{Held}
use Rattle.c25_meaning_expansion.specs.Files.{Files}
use Rattle.c25_report.specs.declared.ending.Ending.{Ending}
use Rattle.c25_report.specs.declared.ending.Ending.TheVariants.{NoCommands}
use Rattle.c25_fronts.specs.Folders.{Opens}
use Rattle.c25_options.specs.Task.{text_of, texts_of}
use Rattle.c25_options.specs.declared.task.DebugTask.{DebugTask}
use Rattle.c25_options.specs.declared.task.RunFiles.{RunFiles}
use Rattle.c25_inputs.specs.Files.{AfterNamed, AfterOptional, AfterSources, ComesTo, SourceNames, assembled_in}
use Rattle.c25_tasks.specs.Prompting.{PromptsTold}
use Rattle.c25_source_notes.specs.Notes.{AreSourceNotes}
use Rattle.c25_tasks.specs.Reading.{Noting, read_by, run_files, sources_under}
use Rattle.c25_tasks.specs.Tells.{Printed, TellsAnswers}
use Rattle.c25_source_notes.specs.declared.notes.SourceNotes.{SourceNotes}

-- the answers to the text of a script, over the named sources among given files and those that they copy,
-- under the texts of the other files; or why there are none
abbrev pub DebugsOver : Held → Files → List (List ℕ) → (command samples schedule script : List ℕ) → Result (String Global) Fault → Type 0
DebugsOver held given names command samples schedule script answer =
    ComesTo held given (λ all result. Debugs (given_of all names command samples schedule) script result) answer

-- the answers of files on a disk, which are read in this order
abbrev pub DebugsFrom : Held → SourceNames → (script : List ℕ) → RunFiles → Result (String Global) Fault → Type 0
DebugsFrom held sources script files answer =
    AfterSources held sources (λ given.
    AfterOptional held (text_of files.command) (λ command.
    AfterOptional held (text_of files.samples) (λ samples.
    AfterOptional held (text_of files.schedule) (λ schedule.
    AfterNamed held script (DebugsOver held given (assembled_in sources) command samples schedule))))) answer

-- the answers are printed, or why there are none is reported
abbrev pub DebugsTold : Held → SourceNotes → SourceNames → (script : List ℕ) → RunFiles → Ending → (note : List ℕ) → Printed → Type 0
DebugsTold held notes sources script files e note out =
    (answer : Result (String Global) Fault) × DebugsFrom held sources script files answer × TellsAnswers held notes answer e note out

-- ---- a script, or the commands of standard input

-- there are no commands, and nothing is printed to standard output
abbrev pub HasNoCommands : Ending → (note : List ℕ) → Printed → Type 0
HasNoCommands e note out = (e ≡ NoCommands) × (note ≡ []) × Keeps out.0 out.1

-- what is done where a script is named or not, and commands of standard input are asked for or not
abbrev pub DebugsAsked : Held → SourceNotes → SourceNames → (script : Option (List ℕ)) → (interactive : Bool) → RunFiles → (input : Option (List ℕ)) → Ending → (note : List ℕ) → Printed → Type 0
DebugsAsked held notes sources (Some script) false files input e note out = DebugsTold held notes sources script files e note out
DebugsAsked held notes sources None true files input e note out = PromptsTold held notes sources files input e note out
DebugsAsked held notes sources None false files input e note out = HasNoCommands e note out
DebugsAsked held notes sources (Some script) true files input e note out = HasNoCommands e note out

-- what is done for a task
abbrev pub DoesDebug : Held → Opens → (input : Option (List ℕ)) → DebugTask → Ending → (note : List ℕ) → Printed → Type 0
DoesDebug held opens input task e note out =
    Noting (AreSourceNotes task.faults task.files task.script (sources_under task.sources.items task.reading) [])
    (λ notes. DebugsAsked (read_by (texts_of task.sources.items) (text_of task.script ∷ run_files task.files) task.reading opens held) notes (sources_under task.sources.items task.reading) (text_of task.script) task.interactive task.files input e note out)
