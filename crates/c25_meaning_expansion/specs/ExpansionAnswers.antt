-- What expansion answers: the lines that it gives, and why it fails, each with the name of the file.
use Rattle.std.specs.Prelude.{ℕ, List, Option, Some, None}
use Rattle.c25_meaning_expansion.specs.Files.{Files, file_name}
use Rattle.c25_meaning_expansion.specs.Rows.{Row}
use Rattle.c25_meaning_expansion.specs.Expansion.{Config, Rewriting, Gives, Goes, Finishes, Faults, Misses}
use Rattle.c25_meaning_language.specs.ExpansionFault.{ExpansionFault, Faulty, Missing}

-- a line that expansion gives: the file's name, the line's number, and its text
pub record ExpandedLine : Type 0 where
  pub file : List ℕ
  pub line : ℕ
  pub text : List ℕ

-- a line as expansion gives it, with the name of its file
abbrev pub expanded_line : Files → Row → ExpandedLine
expanded_line files row = record { file = file_name files row.place.file; line = row.place.line; text = row.text }

-- the line that a rewriting gives and the configuration after it, if it gives one
abbrev pub given_by : Files → Rewriting → Option (ExpandedLine × Config)
given_by files (Gives row c) = Some (expanded_line files row, c)
given_by files (Goes c) = None
given_by files (Finishes c) = None
given_by files (Faults place kind) = None
given_by files (Misses place name) = None

-- why a rewriting fails, if it does
abbrev pub fault_by : Files → Rewriting → Option ExpansionFault
fault_by files (Faults place kind) = Some (Faulty (file_name files place.file) place.line kind)
fault_by files (Misses place name) = Some (Missing (file_name files place.file) place.line name)
fault_by files (Gives row c) = None
fault_by files (Goes c) = None
fault_by files (Finishes c) = None
