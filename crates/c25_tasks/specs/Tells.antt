-- Answers and failures as endings, reports, printed text and written files.
use Rattle.std.specs.Prelude.{◌≡◌, ◌⊎◌, ℕ, Bool, true, false, List, [], map, Option, Result, Ok, Err, String, Vec}
use Rattle.std.specs.Io.KnownBytes.{Appends, Keeps}
use Rattle.std.specs.String.{string_bytes}
use Rattle.std.specs.declared.alloc.Global.{Global}
use Rattle.c25_chain.specs.FaultText.{fault_text}
use Rattle.c25_chain.specs.Chain.{Given, IsAnswer}
use Rattle.c25_chain.specs.Headline.{first_state}
use Rattle.c25_chain.specs.Ready.{IsReady, statements_end}
use Rattle.c25_chain.specs.Refusal.{Fault, IsRefusedAs}
use Rattle.c25_chain.specs.declared.chain.Chain.{Chain}
use Rattle.c25_chain.specs.declared.fault.ChainFault.TheVariants.{File}
use Rattle.c25_chain.specs.declared.ready.Ready.{Ready}
use Rattle.c25_disk.specs.Refusals.{any_reason}
use Rattle.c25_disk.specs.Held.{Adds, Held, Stay}
use Rattle.c25_disk.specs.Written.{EndsBefore, contents_of}
use Rattle.c25_disk.specs.declared.fault.FileFault.TheVariants.{CannotWrite}
use Rattle.c25_disk.specs.declared.writing.Output.{Output}
use Rattle.c25_meaning_common.specs.declared.failure.Failure.TheVariants as failure
use Rattle.c25_meaning_expansion.specs.Files.{Files}
use Rattle.c25_report.specs.Ending.{IsPrinted, IsShort, status_of}
use Rattle.c25_report.specs.declared.ending.Ending.{Ending}
use Rattle.c25_report.specs.declared.ending.Ending.TheVariants as ending
use Rattle.c25_report.specs.declared.ending.Report.{Report}
use Rattle.c25_meaning_processor.specs.Signals.{signals_of}
use Rattle.c25_run.specs.declared.run.LeftAt.{LeftAt}
use Rattle.c25_run.specs.declared.run.RunDetails.{RunDetails}
use Rattle.c25_run.specs.Run.{LeavesRun, PrintsAnswer, PrintsRun, PrintsStatements, SourceStep, TellsAnswer, TellsEnd}
use Rattle.c25_run.specs.Timed.{IsAnswerText, IsEndText}
use Rattle.c25_source_notes.specs.Notes.{IsSourceNote}
use Rattle.c25_source_notes.specs.declared.notes.SourceNotes.{SourceNotes}

-- what was known of what a writer held before, and what is known then
abbrev pub Printed : Type 0
Printed = Option (List ℕ) × Option (List ℕ)

-- what was known of the files that were written before, and what is known then
abbrev pub Wrote : Type 0
Wrote = Option Files × Option Files

-- ---- faults

-- the program ends with a fault of this line
abbrev pub HasFault : List ℕ → Ending → Type 0
HasFault text e = (line : String Global) × (e ≡ ending.Faulty line) × (string_bytes line ≡ text)

-- the program ends with a fault of this line, unless memory runs out
abbrev pub IsLineOf : List ℕ → Ending → Type 0
IsLineOf text e = HasFault text e ⊎ IsShort e

-- the program ends with this line, as an argument is misused, unless memory runs out
abbrev pub IsMisuse : List ℕ → Ending → Type 0
IsMisuse text e = ((line : String Global) × (e ≡ ending.Misused line) × (string_bytes line ≡ text)) ⊎ IsShort e

-- whether all that was asked for is done
abbrev pub is_done : Ending → Bool
is_done ending.Done = true
is_done e = false

-- the report of a failure: out of memory as itself; a fault with its line and its note, unless memory runs
-- out for the line
abbrev pub IsReportOf : Held → SourceNotes → Fault → Ending → (note : List ℕ) → Type 0
IsReportOf held notes (failure.NoMemory n) e note = (e ≡ ending.NoMemory n) × (note ≡ [])
IsReportOf held notes (failure.Fault f) e note = (HasFault (fault_text (failure.Fault f)) e × IsSourceNote any_reason held notes f note) ⊎ (IsShort e × (note ≡ []))

-- what there is, or the report of the failure
abbrev pub IsAnswerOrReport : {A : Type 0} → Held → SourceNotes → Result A Fault → Result A Report → Type 0
IsAnswerOrReport held notes (Ok told) (Ok answer) = answer ≡ told
IsAnswerOrReport held notes (Ok told) (Err report) = ⊥
IsAnswerOrReport held notes (Err fault) (Ok answer) = ⊥
IsAnswerOrReport held notes (Err fault) (Err report) = IsReportOf held notes fault report.ending (string_bytes report.note)

-- ---- answers

-- a program is that of some sources
abbrev pub IsOfSources : Ready → Type 0
IsOfSources ready = (g : Given) × IsReady g ready

-- n steps of a program are printed as they go, as the statements of its sources run and as the chain answers,
-- of whatever sources the program is; or the failure is reported, and nothing goes to standard output
abbrev pub TellsRun : Held → SourceNotes → ℕ → RunDetails → Result Ready Fault → Ending → (note : List ℕ) → Printed → Type 0
TellsRun held notes n details (Ok ready) e note out =
    PrintsRun ready n details e note out.0 out.1
    × ((given : Given) → IsReady given ready → PrintsStatements given ready n details e note out.0 out.1 × PrintsAnswer given n details e note out.0 out.1)
TellsRun held notes n details (Err fault) e note out = IsReportOf held notes fault e note × Keeps out.0 out.1

-- of n steps of a program that is ready this one stops, for this reason
abbrev pub LeavesAnswer : ℕ → Result Ready Fault → LeftAt → Type 0
LeavesAnswer n (Ok ready) left = LeavesRun ready n left
LeavesAnswer n (Err fault) left = ⊥

-- the program ends with status 0, or with 3, as a run that left the code
abbrev pub IsRun : Ending → Type 0
IsRun e = (status_of e ≡ 0) ⊎ (status_of e ≡ 3)

-- after what stood on standard output stands a text of n steps of the statements of the sources, and their end
-- is reported
abbrev pub IsRunOfStatements : Given → ℕ → RunDetails → Ending → (note : List ℕ) → Printed → Type 0
IsRunOfStatements given n details e note out =
    (ready : Ready) × (text : List ℕ) × IsReady given ready
    × IsEndText details.when (SourceStep given ready) (signals_of ready.schedule) n (first_state ready.built.linked.image ready.samples) (statements_end given ready n) text
    × Appends out.0 out.1 text × TellsEnd details.regs ready.built.linked.image ready.schedule n (statements_end given ready n) e note

-- after what stood on standard output stands a text of each answer that the chain has, and its end is
-- reported
abbrev pub IsRunOfAnswers : Given → ℕ → RunDetails → Ending → (note : List ℕ) → Printed → Type 0
IsRunOfAnswers given n details e note out =
    (chain : Chain) → (a : IsAnswer given n chain) → (text : List ℕ) × IsAnswerText details.when chain text × Appends out.0 out.1 text × TellsAnswer details.regs given n chain a e note

-- where the program ends with status 0 or 3, n steps of what the chain is given, of which `is_given` holds,
-- are printed: as its statements run, and as the chain answers
abbrev pub PrintsGiven : (Given → Type 0) → ℕ → RunDetails → Ending → (note : List ℕ) → Printed → Type 0
PrintsGiven is_given n details e note out = IsRun e → (given : Given) × is_given given × IsRunOfStatements given n details e note out × IsRunOfAnswers given n details e note out

-- a text, as the answers of a debugger or a disassembly, goes to standard output; a failure is reported, and
-- nothing goes to standard output
abbrev pub TellsAnswers : Held → SourceNotes → Result (String Global) Fault → Ending → (note : List ℕ) → Printed → Type 0
TellsAnswers held notes (Ok text) e note out = IsPrinted (string_bytes text) ending.Done e out.0 out.1 × (note ≡ [])
TellsAnswers held notes (Err fault) e note out = IsReportOf held notes fault e note × Keeps out.0 out.1

-- ---- files

-- the first of these files that cannot be written is reported (7), unless memory runs out then; those before
-- it were written, and no others
abbrev pub IsUnwrittenAmong : Held → SourceNotes → Files → Ending → (note : List ℕ) → Wrote → Type 0
IsUnwrittenAmong held notes files e note written =
    (file : List ℕ × List ℕ) × EndsBefore written.0 written.1 files file
    × ((fault : Fault) × IsRefusedAs (File (record { place = file.0; fault = CannotWrite })) fault × IsReportOf held notes fault e note)

-- after a report these files are written, or the one that cannot be written is reported in its place
abbrev pub WritesAfter : Held → SourceNotes → Files → (told : Ending) → (front : List ℕ) → Ending → (note : List ℕ) → Wrote → Type 0
WritesAfter held notes files told front e note written =
    ((e ≡ told) × (note ≡ front) × Adds written.0 written.1 files) ⊎ IsUnwrittenAmong held notes files e note written

-- these files are written, or one cannot be written
abbrev pub Writes : Held → SourceNotes → Files → Ending → (note : List ℕ) → Wrote → Type 0
Writes held notes files e note written =
    ((e ≡ ending.Done) × (note ≡ []) × Adds written.0 written.1 files) ⊎ IsUnwrittenAmong held notes files e note written

-- the output files of a task are written; where there are none, the failure is reported and nothing is
-- written
abbrev pub WritesTold : Held → SourceNotes → Result (Vec Output Global) Fault → Ending → (note : List ℕ) → Wrote → Type 0
WritesTold held notes (Ok outputs) e note written = Writes held notes (map contents_of outputs.items) e note written
WritesTold held notes (Err fault) e note written = IsReportOf held notes fault e note × Stay written.0 written.1

-- memory ran out, and nothing is written
abbrev pub IsShortOf : Ending → (note : List ℕ) → Wrote → Type 0
IsShortOf e note written = IsShort e × (note ≡ []) × Stay written.0 written.1

-- these files are written, unless memory runs out before
abbrev pub WritesTexts : Held → SourceNotes → Files → Ending → (note : List ℕ) → Wrote → Type 0
WritesTexts held notes files e note written = Writes held notes files e note written ⊎ IsShortOf e note written
