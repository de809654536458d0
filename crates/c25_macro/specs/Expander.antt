-- What callers see of an expander: where its expansion stands, and what it answers.
use Rattle.std.specs.Prelude.{◌≡◌, ℕ, List, Option, Some, None, Result, Ok, Err}
use Rattle.std.specs.Cow.{cow_str_bytes}
use Rattle.c25_meaning_expansion.specs.Expansion.{Config, Rewriting, Finishes}
use Rattle.c25_meaning_expansion.specs.ExpansionAnswers.{ExpandedLine, given_by, fault_by}
use Rattle.c25_meaning_language.specs.ExpansionFault.{ExpansionFault, Faulty, Missing}
use Rattle.c25_meaning_expansion.specs.ExpansionBounds.{IsBounded}
use Rattle.c25_meaning_expansion.specs.ExpansionRuns.{first, start_of}
use Rattle.c25_meaning_expansion.specs.Files.{Files}
use Rattle.c25_meaning_language.specs.Value.{Table}
use Rattle.std.specs.Borrow.{Bor}
use Rattle.c25_meaning_common.specs.declared.failure.Failure.{Failure}
use Rattle.c25_meaning_common.specs.declared.failure.Failure.TheVariants.{NoMemory, Fault}
use Rattle.c25_meaning_common.specs.declared.placed.FileLine.{FileLine}
use Rattle.c25_meaning_common.specs.declared.placed.Placed.{Placed}
use Rattle.c25_meaning_language.specs.declared.statement.FaultKind.{FaultKind}
use Rattle.c25_meaning_language.specs.declared.statement.FaultKind.TheVariants as fault
use Rattle.c25_macro.specs.declared.answer.ExpLine.{ExpLine}

-- where an expansion stands: at a configuration, before the first line of a module that is not there, or
-- after a failure
pub data Stage : Type 0 where
  Stands : (at : Config) → Stage
  Absent : Stage
  Failed : (failure : Failure ExpansionFault) → Stage

-- an expansion: the files, the name of the module, and where it stands
pub record Expansion : Type 0 where
  pub files : Files
  pub name : List ℕ
  pub stage : Stage

-- where an expansion stands before its first line; None is for a module that is not there
abbrev pub begun_at : Option Config → Stage
begun_at None = Absent
begun_at (Some c) = Stands c

-- the expansion of the module of a name, before its first line
abbrev pub begun : Files → List ℕ → Expansion
begun files name = record { files = files; name = name; stage = begun_at (start_of files name) }

-- the line of the definition that a line which is given stands for
abbrev pub shown : ExpLine → ExpandedLine
shown l = record { file = l.file.now; line = l.line; text = cow_str_bytes l.text }

-- a fault with its place: the name of a file and the number of a line
abbrev pub ExpandFault : Type 0
ExpandFault = Placed (FileLine (Bor (List ℕ))) FaultKind

-- a fault of the definition is reported in this way; a file that is not there is reported as NoFile
abbrev pub TellsFault : ExpansionFault → ExpandFault → Type 0
TellsFault (Faulty file line kind) f = (f.place.file.now ≡ file) × (f.place.line ≡ line) × (f.fault ≡ kind)
TellsFault (Missing file line name) f = (f.place.file.now ≡ file) × (f.place.line ≡ line) × (f.fault ≡ fault.NoFile)

-- a failure of the definition is reported in this way
abbrev pub Tells : Failure ExpansionFault → Failure ExpandFault → Type 0
Tells (NoMemory n) (NoMemory m) = Unit {0}
Tells (Fault meant) (Fault f) = TellsFault meant f
Tells failure told = ⊥

-- a failure is the fault that a rewriting ends with, or memory ran out
abbrev pub IsFailure : Files → Rewriting → Failure ExpansionFault → Type 0
IsFailure files r (NoMemory n) = Unit {0}
IsFailure files r (Fault f) = fault_by files r ≡ Some f

-- the answer of a call is this rewriting, and the expansion then stands where that leads
abbrev pub Comes : Files → Rewriting → Result (Option ExpLine) (Failure ExpandFault) → Stage → Type 0
Comes files r (Ok (Some line)) (Stands c) = given_by files r ≡ Some (shown line, c)
Comes files r (Ok None) (Stands c) = r ≡ Finishes c
Comes files r (Err e) (Failed failure) = IsFailure files r failure × Tells failure e
Comes files r result stage = ⊥

-- the answer of a call, and where the expansion then stands: the answer is the next line, the end, or the
-- first failure, which all further calls report again
abbrev pub IsNextAt : Files → List ℕ → Stage → Table → Result (Option ExpLine) (Failure ExpandFault) → Stage → Type 0
IsNextAt files name (Stands c) s result new = Comes files (first files s c) result new
IsNextAt files name Absent s (Err e) new = (new ≡ Failed (Fault (Missing name 0 name))) × Tells (Fault (Missing name 0 name)) e
IsNextAt files name Absent s (Ok o) new = ⊥
IsNextAt files name (Failed failure) s (Err e) new = (new ≡ Failed failure) × Tells failure e
IsNextAt files name (Failed failure) s (Ok o) new = ⊥

-- the answer of a call to this expansion, and where it then stands
abbrev pub IsNext : Expansion → Table → Result (Option ExpLine) (Failure ExpandFault) → Stage → Type 0
IsNext old s result new = IsNextAt old.files old.name old.stage s result new

-- the name of the file that is not there, if the expansion failed for it
abbrev pub missing_of : Stage → Option (List ℕ)
missing_of (Stands c) = None
missing_of Absent = None
missing_of (Failed (NoMemory n)) = None
missing_of (Failed (Fault (Faulty file line kind))) = None
missing_of (Failed (Fault (Missing file line name))) = Some name

-- how many lines an expansion may still read
abbrev pub left_of : Stage → ℕ
left_of (Stands c) = c.left
left_of Absent = 0
left_of (Failed failure) = 0

-- an expansion that has not failed is within its bounds: at most 32 blocks are open, and at most 200,000
-- lines are read
abbrev pub IsKept : Stage → Type 0
IsKept (Stands c) = IsBounded c
IsKept Absent = Unit {0}
IsKept (Failed failure) = Unit {0}
