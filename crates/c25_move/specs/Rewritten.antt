-- What a line of an old source that is moved stands for.
use Rattle.std.specs.Prelude.{ℕ, Bool, true, false, List, [], ◌∷◌, ◌++◌, map, string_bytes}
use Rattle.std.specs.List.{flat_map}
use Rattle.c25_meaning_language.specs.declared.statement.FaultKind.{FaultKind}
use Rattle.c25_move_lines.specs.declared.rule.Rule.{Rule}
use Rattle.c25_move.specs.declared.moved_line.LineEnd.{LineEnd}
use Rattle.c25_move.specs.declared.moved_line.LineEnd.TheVariants.{Feed, ReturnFeed, End}
use Rattle.c25_move.specs.declared.moved_line.MovedLine.{MovedLine}

-- a line of an old source, how it ends, the lines that take its place, and what is reported of it: the rules that are
-- done, those that leave something, and the faults of the new lines
pub record Rewritten : Type 0 where
  pub old : List ℕ
  pub end : LineEnd
  pub lines : List (List ℕ)
  pub done : List Rule
  pub left : List Rule
  pub refused : List FaultKind

-- what a line that is moved stands for
abbrev pub rewritten_of : MovedLine → Rewritten
rewritten_of m = record {
  old = m.old.now;
  end = m.end;
  lines = map string_bytes m.change.lines.items;
  done = m.change.done.items;
  left = m.change.left.items;
  refused = m.refused.items;
}

-- the bytes with which a line ends: LF, CR LF, or none at the end of the text
abbrev pub end_bytes : LineEnd → List ℕ
end_bytes Feed = 10 ∷ []
end_bytes ReturnFeed = 13 ∷ 10 ∷ []
end_bytes End = []

-- the text of an old line with its end
abbrev pub old_row : Rewritten → List ℕ
old_row m = m.old ++ end_bytes m.end

-- the text of old lines, one after another
abbrev pub old_text : List Rewritten → List ℕ
old_text ms = flat_map old_row ms

-- the bytes between the lines that take a line's place: its end, or LF
abbrev pub break_bytes : LineEnd → List ℕ
break_bytes End = 10 ∷ []
break_bytes end = end_bytes end

-- what follows the last of the lines that take the place of a line with this end, and what follows another one
abbrev pub after_bytes : LineEnd → (is_last : Bool) → List ℕ
after_bytes end true = end_bytes end
after_bytes end false = break_bytes end

-- what follows a line before these lines
abbrev pub before_lines : LineEnd → List (List ℕ) → List ℕ
before_lines end [] = after_bytes end true
before_lines end (l ∷ ls) = after_bytes end false

-- lines that take the place of a line with this end
abbrev pub rows_of : LineEnd → List (List ℕ) → List ℕ
rows_of end [] = []
rows_of end (l ∷ ls) = (l ++ before_lines end ls) ++ rows_of end ls

-- the lines that take a line's place, with their ends
abbrev pub new_row : Rewritten → List ℕ
new_row m = rows_of m.end m.lines

-- the text of the new lines
abbrev pub new_text : List Rewritten → List ℕ
new_text ms = flat_map new_row ms
