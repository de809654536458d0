-- The task `check`: the warnings of sources, reported.
use Rattle.std.specs.Prelude.{◌≡◌, ◌⊎◌, ◌==◌, ℕ, Bool, true, List, [], ◌∷◌, ◌++◌, Option, Result, Ok, Err}
use Rattle.std.specs.List.{after_first, before_first}
use Rattle.std.specs.String.{string_bytes}
use Rattle.c25_chain.specs.Refusal.{Fault}
use Rattle.c25_check.specs.Checking.{ChecksFrom}
use Rattle.c25_check.specs.declared.check.Checked.{Checked}
use Rattle.c25_disk.specs.Held.{Held}
use Rattle.c25_source_notes.specs.declared.notes.SourceNotes.{SourceNotes}
use Rattle.c25_inputs.specs.Files.{SourceNames}
use Rattle.c25_report.specs.Ending.{IsShort}
use Rattle.c25_report.specs.declared.ending.Ending.{Ending}
use Rattle.c25_report.specs.declared.ending.Ending.TheVariants as ending
use Rattle.c25_fronts.specs.Folders.{Opens}
use Rattle.c25_options.specs.Task.{text_of, texts_of}
use Rattle.c25_options.specs.declared.task.CheckTask.{CheckTask}
use Rattle.c25_tasks.specs.Reading.{AreNotesUnder, Noting, read_by, sources_under}
use Rattle.c25_tasks.specs.Tells.{HasFault, IsReportOf}

-- the first line of a text, without its line feed, and the lines after it
abbrev pub first_line : List ℕ → List ℕ
first_line text = before_first (λ b. b == 10) text

abbrev pub other_lines : List ℕ → List ℕ
other_lines text = after_first (λ b. b == 10) text

-- the report of a first line and of others after it, unless memory runs out
abbrev pub IsReportWith : (first others : List ℕ) → Ending → (note : List ℕ) → Type 0
IsReportWith first others e note = (HasFault first e × (note ≡ others)) ⊎ (IsShort e × (note ≡ []))

-- lines of warnings are reported as those of faults: the first is the line of the ending and the others are its note, unless
-- memory runs out; without warnings all is done
abbrev pub ReportsLines : List ℕ → Ending → (note : List ℕ) → Type 0
ReportsLines [] e note = (e ≡ ending.Done) × (note ≡ [])
ReportsLines (b ∷ text) e note = IsReportWith (first_line (b ∷ text)) (other_lines (b ∷ text)) e note

-- a report with facts after its note, unless memory runs out
abbrev pub IsReportBefore : (facts : List ℕ) → (Ending → List ℕ → Type 0) → Ending → (note : List ℕ) → Type 0
IsReportBefore facts reports e note = ((first : List ℕ) × reports e first × (note ≡ first ++ facts)) ⊎ (IsShort e × (note ≡ []))

-- the warnings of sources are reported, and after them what was found of their data pages on the whole; or why their program cannot
-- be built
abbrev pub ReportsChecked : Held → SourceNotes → Result Checked Fault → Ending → (note : List ℕ) → Type 0
ReportsChecked held notes (Ok checked) e note = IsReportBefore (string_bytes checked.facts) (ReportsLines (string_bytes checked.warnings)) e note
ReportsChecked held notes (Err fault) e note = IsReportOf held notes fault e note

-- sources on a disk are checked under a command file, where one is named
abbrev pub ChecksTold : (explain pages : Bool) → Held → SourceNotes → SourceNames → Option (List ℕ) → Ending → (note : List ℕ) → Type 0
ChecksTold explain pages held notes sources command e note = (told : Result Checked Fault) × ChecksFrom explain pages held sources command told × ReportsChecked held notes told e note

-- what is done for a task; all faults are reported, whether `--all` is given or not
abbrev pub DoesCheck : Held → Opens → CheckTask → Ending → (note : List ℕ) → Type 0
DoesCheck held opens task e note =
    Noting (AreNotesUnder (record { explain = task.faults.explain; all = true }) task.command (sources_under task.sources.items task.reading) [])
    (λ notes. ChecksTold task.faults.explain task.pages (read_by (texts_of task.sources.items) (text_of task.command ∷ []) task.reading opens held) notes (sources_under task.sources.items task.reading) (text_of task.command) e note)
