-- A line of a source after expansion.
use Rattle.std.specs.Prelude.{ℕ, List}

-- a line after expansion: its file and number, its text, and the words by which it made its section longer
pub record SourceLine : Type 0 where
  pub file : List ℕ
  pub line : ℕ
  pub text : List ℕ
  pub section : ℕ
  pub offset : ℕ
  pub count : ℕ
