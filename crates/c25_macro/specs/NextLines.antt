-- What an expander answers where the lines that it refuses are left out.
use Rattle.std.specs.Prelude.{◌≡◌, ℕ, ◌<◌, List, Option, Some, None, Result, Ok, Err}
use Rattle.c25_meaning_common.specs.declared.failure.Failure.{Failure}
use Rattle.c25_meaning_common.specs.declared.failure.Failure.TheVariants.{NoMemory, Fault}
use Rattle.c25_meaning_expansion.specs.Expansion.{Config, Rewriting, Finishes}
use Rattle.c25_meaning_expansion.specs.ExpansionAnswers.{given_by, fault_by}
use Rattle.c25_meaning_expansion.specs.ExpansionRuns.{first, weight}
use Rattle.c25_meaning_expansion.specs.Files.{Files}
use Rattle.c25_meaning_expansion.specs.LeftOut.{first_left_out}
use Rattle.c25_meaning_language.specs.ExpansionFault.{ExpansionFault, Missing}
use Rattle.c25_meaning_language.specs.Value.{Table}
use Rattle.c25_macro.specs.Expander.{ExpandFault, Expansion, IsFailure, Stage, Stands, Absent, Failed, Tells, shown}
use Rattle.c25_macro.specs.Tracers.{fault_in}
use Rattle.c25_macro.specs.declared.answer.ExpLine.{ExpLine}
use Rattle.c25_macro.specs.declared.answer.NextLine.{NextLine}
use Rattle.c25_macro.specs.declared.answer.NextLine.TheVariants.{Given, LeftOut, Finished}

-- the answer of a call that leaves no line out
abbrev pub next_of : Result (Option ExpLine) (Failure ExpandFault) → Result NextLine (Failure ExpandFault)
next_of (Ok (Some line)) = Ok (Given line)
next_of (Ok None) = Ok Finished
next_of (Err failure) = Err failure

-- a fault after which nothing is gone on with
abbrev pub IsLast : Option Config → Failure ExpansionFault → Type 0
IsLast after (NoMemory n) = Unit {0}
IsLast after (Fault f) = after ≡ None

-- the answer of a call is this rewriting, and the expansion then stands where that leads; `after` is what is gone
-- on with where a line is refused
abbrev pub Comes : Files → Rewriting → (after : Option Config) → Result NextLine (Failure ExpandFault) → Stage → Type 0
Comes files r after (Ok (Given line)) (Stands c) = given_by files r ≡ Some (shown line, c)
Comes files r after (Ok (LeftOut f)) (Stands c) = (fault_by files r ≡ Some (fault_in f)) × (after ≡ Some c)
Comes files r after (Ok Finished) (Stands c) = r ≡ Finishes c
Comes files r after (Err e) (Failed failure) = IsFailure files r failure × Tells failure e × IsLast after failure
Comes files r after result stage = ⊥

-- the answer of a call, and where the expansion then stands: the answer is the next line, the end, a line that is
-- refused and left out, or the last failure, which all further calls report again
abbrev pub IsNextAt : Files → List ℕ → Stage → Table → Result NextLine (Failure ExpandFault) → Stage → Type 0
IsNextAt files name (Stands c) s result new = Comes files (first files s c) (first_left_out files s c) result new
IsNextAt files name Absent s (Err e) new = (new ≡ Failed (Fault (Missing name 0 name))) × Tells (Fault (Missing name 0 name)) e
IsNextAt files name Absent s (Ok o) new = ⊥
IsNextAt files name (Failed failure) s (Err e) new = (new ≡ Failed failure) × Tells failure e
IsNextAt files name (Failed failure) s (Ok o) new = ⊥

-- the answer of a call to this expansion, and where it then stands
abbrev pub IsNext : Expansion → Table → Result NextLine (Failure ExpandFault) → Stage → Type 0
IsNext old s result new = IsNextAt old.files old.name old.stage s result new

-- how much an expansion may still rewrite
abbrev pub weight_of : Stage → ℕ
weight_of (Stands c) = weight c
weight_of Absent = 0
weight_of (Failed failure) = 0

-- a line that is given or left out leaves less to rewrite
abbrev pub IsLighter : NextLine → (old new : Stage) → Type 0
IsLighter (Given line) old new = weight_of new < weight_of old
IsLighter (LeftOut f) old new = weight_of new < weight_of old
IsLighter Finished old new = Unit {0}
