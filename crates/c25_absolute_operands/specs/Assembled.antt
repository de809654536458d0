-- The lines of a source that is assembled to a module.
use Rattle.std.specs.Prelude.{◌≡◌, ℕ, List, Some, Ok}
use Rattle.c25_meaning_assembly.specs.Emission.{finished}
use Rattle.c25_meaning_expansion.specs.Files.{Files}
use Rattle.c25_meaning_objects.specs.Module.{Contents}
use Rattle.c25_warnings.specs.SourceLines.{SourceLines, source_lines}

-- a source has lines, none with a fault, and what they have made is finished as this module
pub record HasLines (files : Files) (name : List ℕ) (m : Contents) : Type 0 where
  pub lines : SourceLines
  pub are_lines : source_lines files name ≡ Some lines
  pub make : finished lines.progress ≡ Ok m
