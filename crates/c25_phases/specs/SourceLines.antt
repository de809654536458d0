-- Lines of files, one after another.
use Rattle.std.specs.Prelude.{◌≡◌, ℕ, List}
use Rattle.c25_phases.specs.Runs.{origins_in}
use Rattle.c25_phases.specs.declared.source_lines.SourceLines.{SourceLines}
use Rattle.c25_meaning_common.specs.declared.placed.FileLine.{FileLine}

-- all lines in order
abbrev pub origins_of : SourceLines → List (FileLine (List ℕ))
origins_of l = origins_in l.runs.items l.file.now l.numbers.items

-- the lines are the same, and the lines that come next are of this file
pub record TurnsTo (old new : SourceLines) (file : List ℕ) : Type 0 where
  pub same : origins_of new ≡ origins_of old
  pub next : new.file.now ≡ file
