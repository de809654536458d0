-- What the lines that a source still has come to.
use Rattle.std.specs.Prelude.{◌≡◌, ◌<◌, ℕ, Option, Some, None, Result, Ok, Err}
use Rattle.c25_macro.specs.Expander.{Expansion, Stage, Stands, Absent, Failed}
use Rattle.c25_meaning_common.specs.declared.failure.Failure.{Failure}
use Rattle.c25_meaning_common.specs.declared.failure.Failure.TheVariants.{NoMemory, Fault}
use Rattle.c25_meaning_expansion.specs.Files.{Files}
use Rattle.c25_warnings.specs.SourceLines.{SourceLines, lines_from}
use Rattle.c25_phases.specs.View.{progress_of}
use Rattle.c25_line_warnings.specs.View.{lines_of}
use Rattle.c25_warnings.specs.declared.lines.Faulty.{Faulty}
use Rattle.c25_warnings.specs.declared.lines.SourceLines as code

-- the lines so far, and what they have made
abbrev pub source_of : code.SourceLines → SourceLines
source_of a = record { progress = progress_of a.progress.value; lines = lines_of a.lines.items }

-- what all lines of the source come to, where an expansion has come this far and the lines so far are these
abbrev pub StillComes : Files → Stage → SourceLines → Option SourceLines → Type 0
StillComes files (Stands c) a meant = (n : ℕ) × (c.left < n) × (lines_from files n c a ≡ meant)
StillComes files Absent a meant = meant ≡ None
StillComes files (Failed f) a meant = ⊥

-- the answer is what lines come to, or memory ran out
abbrev pub ComesTo : Option SourceLines → Result code.SourceLines (Failure Faulty) → Type 0
ComesTo meant (Ok a) = meant ≡ Some (source_of a)
ComesTo meant (Err (Fault f)) = meant ≡ None
ComesTo meant (Err (NoMemory e)) = Unit {0}

-- the answer is what all lines come to
abbrev pub IsRest : Expansion → SourceLines → Result code.SourceLines (Failure Faulty) → Type 0
IsRest e made result = (meant : Option SourceLines) → StillComes e.files e.stage made meant → ComesTo meant result
