-- The program: what it reads, prints, writes and reports.
use Rattle.std.specs.Prelude.{◌≡◌, ◌⊎◌, ℕ, ◌<◌, ◌≤◌, if◌then◌else◌, List, [], ◌∷◌, ◌++◌, codes, length, Option, Some, None, Result, Ok, Err}
use Rattle.std.specs.Io.KnownBytes.{Keeps}
use Rattle.std.specs.String.{string_bytes}
use Rattle.clap.specs.declared.error.Error.{Error}
use Rattle.c25_disk.specs.Held.{Held, Stay}
use Rattle.c25_meaning_common.specs.declared.failure.Failure.{Failure}
use Rattle.c25_report.specs.Ending.{IsShort}
use Rattle.c25_report.specs.declared.ending.Ending.{Ending}
use Rattle.c25_report.specs.declared.ending.Ending.TheVariants as ending
use Rattle.c25_report.specs.declared.ending.Report.{Report}
use Rattle.c25_options.specs.Arranged.{arranged}
use Rattle.c25_options.specs.Task.{Reads, text_of}
use Rattle.c25_options.specs.Tips.{tip_on}
use Rattle.c25_options.specs.declared.task.Task.{Task}
use Rattle.c25_options.specs.declared.task.Task.TheVariants.{RunStandardInput, Assemble, Link, Build, Run, RunImage, Debug, DebugImage, Explain, Disassemble, Check, Move}
use Rattle.c25_fronts.specs.Definitions.{is_definition}
use Rattle.c25_fronts.specs.Folders.{Opens}
use Rattle.c25_moving.specs.Moving.{DoesMove}
use Rattle.c25_tasks.specs.Assembly.{DoesAssemble}
use Rattle.c25_tasks.specs.BuildToDisk.{DoesBuild}
use Rattle.c25_tasks.specs.Checking.{DoesCheck}
use Rattle.c25_tasks.specs.Debugging.{DoesDebug}
use Rattle.c25_tasks.specs.Explaining.{ExplainedTold}
use Rattle.c25_tasks.specs.ImageRuns.{DoesDebugImage, DoesRunImage}
use Rattle.c25_tasks.specs.Images.{DoesDis}
use Rattle.c25_tasks.specs.Linking.{DoesLink}
use Rattle.c25_tasks.specs.Reading.{definitions_in}
use Rattle.c25_tasks.specs.Counting.{DoesRun}
use Rattle.c25_tasks.specs.Running.{Runs}
use Rattle.c25_tasks.specs.Tells.{IsMisuse, Printed, Wrote}

-- how the program ends, the note that it reports, what it prints to standard output, and what it writes
pub record Effect : Type 0 where
  pub ending : Ending
  pub note : List ℕ
  pub out : Printed
  pub written : Wrote

-- the effect with the ending and the note of a report
abbrev pub effect_of : Report → Printed → Wrote → Effect
effect_of report out written = record { ending = report.ending; note = string_bytes report.note; out = out; written = written }

-- ---- tasks

-- nothing is written, and no note is reported
abbrev pub OnlyPrints : Effect → Type 0
OnlyPrints e = Stay e.written.0 e.written.1 × (e.note ≡ [])

-- nothing is printed to standard output and nothing is written
abbrev pub DoesNothing : Effect → Type 0
DoesNothing e = Keeps e.out.0 e.out.1 × Stay e.written.0 e.written.1

-- nothing is printed to standard output and nothing is written, and no note is reported
abbrev pub IsQuiet : Effect → Type 0
IsQuiet e = Keeps e.out.0 e.out.1 × Stay e.written.0 e.written.1 × (e.note ≡ [])

-- what the program does for a task whose definitions define symbols, with what is known of standard input, of the files
-- on the disk and of which can be opened
abbrev pub DoesTask : Held → Opens → Option (List ℕ) → Task → Effect → Type 0
DoesTask held opens input RunStandardInput e = Runs held input e.ending e.note e.out × Stay e.written.0 e.written.1
DoesTask held opens input (Assemble task) e = DoesAssemble held opens task e.ending e.note e.written × Keeps e.out.0 e.out.1
DoesTask held opens input (Link task) e = DoesLink held task e.ending e.note e.written × Keeps e.out.0 e.out.1
DoesTask held opens input (Build task) e = DoesBuild held opens task e.ending e.note e.written e.out
DoesTask held opens input (Run task) e = DoesRun held opens task e.ending e.note e.out e.written
DoesTask held opens input (RunImage task) e = DoesRunImage held opens task e.ending e.note e.out e.written
DoesTask held opens input (Debug task) e = DoesDebug held opens input task e.ending e.note e.out × Stay e.written.0 e.written.1
DoesTask held opens input (DebugImage task) e = DoesDebugImage held opens input task e.ending e.note e.out × Stay e.written.0 e.written.1
DoesTask held opens input (Explain fault) e = ExplainedTold (text_of fault) e.ending e.out × OnlyPrints e
DoesTask held opens input (Disassemble task) e = DoesDis held task e.ending e.note e.written e.out
DoesTask held opens input (Check task) e = DoesCheck held opens task e.ending e.note × DoesNothing e
DoesTask held opens input (Move task) e = DoesMove held task e.ending e.written.0 e.written.1 e.out.0 e.out.1 × (e.note ≡ [])

-- ---- definitions

-- the symbols that a task defines in front of its sources
abbrev pub definitions_of : Task → List (List ℕ)
definitions_of RunStandardInput = []
definitions_of (Assemble task) = definitions_in task.reading
definitions_of (Link task) = []
definitions_of (Build task) = definitions_in task.reading
definitions_of (Run task) = definitions_in task.reading
definitions_of (RunImage task) = []
definitions_of (Debug task) = definitions_in task.reading
definitions_of (DebugImage task) = []
definitions_of (Explain fault) = []
definitions_of (Disassemble task) = []
definitions_of (Check task) = definitions_in task.reading
definitions_of (Move task) = []

-- the first of these texts that defines no symbol
abbrev pub first_refused : List (List ℕ) → Option (List ℕ)
first_refused [] = None
first_refused (text ∷ texts) = if is_definition text then first_refused texts else Some text

-- the line for a text that defines no symbol
abbrev pub no_definition_line : List ℕ → List ℕ
no_definition_line text = codes "c25: -D " ++ text ++ codes " is no NAME=VALUE"

-- what the program does for a task: it says which of its definitions defines no symbol, if there is one, and does
-- nothing else then
abbrev pub DoesUnless : (refused : Option (List ℕ)) → Held → Opens → Option (List ℕ) → Task → Effect → Type 0
DoesUnless None held opens input task e = DoesTask held opens input task e
DoesUnless (Some text) held opens input task e = IsMisuse (no_definition_line text) e.ending × IsQuiet e

abbrev pub Does : Held → Opens → Option (List ℕ) → Task → Effect → Type 0
Does held opens input task e = DoesUnless (first_refused (definitions_of task)) held opens input task e

-- ---- command lines

-- after the report that these words ask for no task stands the tip on them, unless memory runs out for it
abbrev pub IsTip : List (List ℕ) → Failure Error → (note : List ℕ) → Type 0
IsTip words fault note = (note ≡ tip_on fault words) ⊎ (note ≡ [])

-- what the program does where this is read of these words: the task, or the report that there is none
abbrev pub DoesRead : Held → Opens → Option (List ℕ) → List (List ℕ) → Result Task (Failure Error) → Effect → Type 0
DoesRead held opens input words (Ok task) e = Does held opens input task e
DoesRead held opens input words (Err fault) e = (e.ending ≡ ending.NoTask fault) × IsTip words fault e.note × DoesNothing e

-- how a command line is read, the program's name first: without arguments it asks for the run of standard
-- input; else its words are read in their order, in which flags of faults and `help` may stand before a subcommand
abbrev pub AreRead : List (List ℕ) → Result Task (Failure Error) → Type 0
AreRead words answer = (length words < 2 → answer ≡ Ok RunStandardInput) × (2 ≤ length words → Reads (arranged words) answer)

-- what the program does for a command line
abbrev pub DoesWords : Held → Opens → Option (List ℕ) → List (List ℕ) → Effect → Type 0
DoesWords held opens input words e = (answer : Result Task (Failure Error)) × AreRead words answer × DoesRead held opens input words answer e

-- there is no command line: an argument is not UTF-8, or memory ran out
abbrev pub HasNoWords : Ending → Type 0
HasNoWords e = (e ≡ ending.NoText) ⊎ IsShort e

-- what the program does: for some command line, which is not known; or the command line cannot be had, and
-- nothing is done
abbrev pub IsProgram : Held → Opens → Option (List ℕ) → Effect → Type 0
IsProgram held opens input e = ((words : List (List ℕ)) × DoesWords held opens input words e) ⊎ (HasNoWords e.ending × IsQuiet e)
