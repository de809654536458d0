-- A line as it is read where it is refused.
use Rattle.std.specs.Prelude.{ℕ, if◌then◌else◌, List, Option, Some, None}
use Rattle.std.specs.Cow.{cow_str_bytes}
use Rattle.c25_meaning_assembly.specs.AllFaults.{is_last_kind, left_out}
use Rattle.c25_meaning_assembly.specs.Sections.{Progress, table}
use Rattle.c25_meaning_expansion.specs.ExpansionAnswers.{ExpandedLine}
use Rattle.c25_meaning_language.specs.ExpansionFault.{ExpansionFault, Faulty, Missing}
use Rattle.c25_meaning_language.specs.Value.{Table}
use Rattle.c25_asm.specs.declared.seen_line.SeenLine.{SeenLine}

-- a line as it is read where it is refused: its text after substitution, and what names and `$` stand for
pub record Seen : Type 0 where
  pub text : List ℕ
  pub table : Table

-- a line that the first phase refuses after the lines that have made this: names stand for what the lines so far
-- and its own label make of them; nothing of a line for which there is no room (54)
abbrev pub seen_by : ExpansionFault → ExpandedLine → Progress → Option Seen
seen_by (Faulty file line kind) l made = if is_last_kind kind then None else Some (record { text = l.text; table = table (left_out l.text made) })
seen_by (Missing file line name) l made = None

-- what is seen of a line
abbrev pub seen_of : SeenLine → Seen
seen_of s = record { text = cow_str_bytes s.text; table = s.symbols }
