-- Why the expansion of a source fails, and in which file.
use Rattle.std.specs.Prelude.{ℕ, List}
use Rattle.c25_meaning_language.specs.declared.statement.FaultKind.{FaultKind}

-- why no line is given: a line of a file is wrong, or it asks for a file that is not there
pub data ExpansionFault : Type 0 where
  Faulty : (file : List ℕ) (line : ℕ) (kind : FaultKind) → ExpansionFault
  Missing : (file : List ℕ) (line : ℕ) (name : List ℕ) → ExpansionFault
