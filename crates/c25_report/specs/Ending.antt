-- How the program ends: its status, and what it reports.
use Rattle.std.specs.Prelude.{◌≡◌, ◌⊎◌, ℕ, List, ◌++◌, codes, Option}
use Rattle.std.specs.Io.KnownBytes.{Appends, Keeps}
use Rattle.std.specs.String.{string_bytes}
use Rattle.clap.specs.Values.{kind_of}
use Rattle.clap.specs.declared.error.Error.{Error}
use Rattle.clap.specs.declared.error.kind.ErrorKind.{ErrorKind}
use Rattle.clap.specs.declared.error.kind.ErrorKind.TheVariants.{OutOfMemory}
use Rattle.c25_board.specs.declared.board.Outcome.{Outcome}
use Rattle.c25_board.specs.declared.board.Outcome.TheVariants as outcome
use Rattle.c25_meaning_common.specs.declared.failure.Failure.{Failure}
use Rattle.c25_meaning_common.specs.declared.failure.Failure.TheVariants as failure
use Rattle.c25_meaning_common.specs.declared.no_memory.NoMemory as no_memory
use Rattle.c25_options.specs.Task.{IsWantOfMemory}
use Rattle.c25_report.specs.declared.ending.Ending.{Ending}
use Rattle.c25_report.specs.declared.ending.Ending.TheVariants.{Done, Left, Unfinished, Sunk, Faulty, NoMemory, Unprinted, NoTask, NoText, NoCommands, Misused}
use Rattle.c25_report.specs.declared.ending.Report.{Report}

-- ---- statuses

-- the status of `clap`'s errors
abbrev pub kind_status : ErrorKind → ℕ
kind_status OutOfMemory = 1
kind_status kind = 2

-- the status of a command line that is no task: 1 where memory ran out, else 2
abbrev pub words_status : Failure Error → ℕ
words_status (failure.NoMemory n) = 1
words_status (failure.Fault error) = kind_status (kind_of error)

-- the program's status
abbrev pub status_of : Ending → ℕ
status_of Done = 0
status_of Left = 3
status_of Unfinished = 4
status_of Sunk = 1
status_of (Faulty line) = 1
status_of (NoMemory n) = 1
status_of Unprinted = 1
status_of (NoTask fault) = words_status fault
status_of NoText = 2
status_of NoCommands = 2
status_of (Misused line) = 2

-- ---- standard output

-- the ending of a printed run with this outcome
abbrev pub ending_of : Outcome → Ending
ending_of outcome.Ran = Done
ending_of (outcome.Left at stop) = Left
ending_of (outcome.SinkFault at) = Sunk

-- some first bytes of a text are printed after what stood there
abbrev pub HasFront : List ℕ → Option (List ℕ) → Option (List ℕ) → Type 0
HasFront text old new = (front rest : List ℕ) × (text ≡ front ++ rest) × Appends old new front

-- a text is printed after what stood there, and this is the ending; or it cannot be printed to its end, and
-- some of its first bytes are
abbrev pub IsPrinted : List ℕ → Ending → Ending → Option (List ℕ) → Option (List ℕ) → Type 0
IsPrinted text done ending old new = ((ending ≡ done) × Appends old new text) ⊎ ((ending ≡ Unprinted) × HasFront text old new)

-- the program ends because memory ran out
abbrev pub IsShort : Ending → Type 0
IsShort e = (n : no_memory.NoMemory) × (e ≡ NoMemory n)

-- ---- standard error

-- a line is printed after what stood there
abbrev pub HasLine : List ℕ → Option (List ℕ) → Option (List ℕ) → Type 0
HasLine line old new = Appends old new (line ++ codes "\n")

-- what is reported of a command line that is no task: the line for out of memory, or else `clap`'s text, of
-- which no more is known
abbrev pub IsToldOfWords : Failure Error → Option (List ℕ) → Option (List ℕ) → Type 0
IsToldOfWords fault old new = IsWantOfMemory fault → HasLine (codes "memory: 9 NoMemory") old new

-- what is reported of an ending
abbrev pub IsTold : Ending → Option (List ℕ) → Option (List ℕ) → Type 0
IsTold Done old new = Keeps old new
IsTold Left old new = Keeps old new
IsTold Unfinished old new = Keeps old new
IsTold Sunk old new = Keeps old new
IsTold (Faulty line) old new = HasLine (string_bytes line) old new
IsTold (NoMemory n) old new = HasLine (codes "memory: 9 NoMemory") old new
IsTold Unprinted old new = HasLine (codes "stdout: 7 CannotWrite") old new
IsTold (NoTask fault) old new = IsToldOfWords fault old new
IsTold NoText old new = HasLine (codes "c25: a word is not UTF-8") old new
IsTold NoCommands old new = HasLine (codes "c25: debug takes --script FILE or --interactive") old new
IsTold (Misused line) old new = HasLine (string_bytes line) old new

-- a report is printed: that of its ending, and the note after it
abbrev pub IsReported : Report → Option (List ℕ) → Option (List ℕ) → Type 0
IsReported report old new = (told : Option (List ℕ)) × IsTold report.ending old told × Appends told new (string_bytes report.note)
