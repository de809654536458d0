-- Lines of a file that are read one after another, with those read since a mark.
use Rattle.std.specs.Prelude.{◌≡◌, ℕ, ◌+◌, ◌≤◌, ◌^◌, List, length, take, drop}
use Rattle.std.specs.Str.Lines.{lines}
use Rattle.c25_meaning_expansion.specs.Rows.{Row, rows_from}

-- the lines read since the mark, and those still to come
pub record Passage : Type 0 where
  pub passed : List Row
  pub rest : List Row

-- the first `count` lines of a text, with their places: the first is this line of a file
abbrev pub rows_in : ℕ → ℕ → ℕ → List ℕ → List Row
rows_in file line count text = take count (rows_from file line (lines text))

-- a text has at least `count` lines, and their numbers fit in 63 bits
pub record IsRange (line : ℕ) (count : ℕ) (text : List ℕ) : Type 0 where
  pub there : count ≤ length (lines text)
  pub fits : line + count ≤ 2 ^ 63

-- `count` lines of the text `rest` are still to come, and `passed` lines of the text `begun`, at whose end
-- `rest` stands, were read before them since the mark
pub record IsPassage (line : ℕ) (count : ℕ) (passed : ℕ) (begun : List ℕ) (rest : List ℕ) : Type 0 where
  pub there : count ≤ length (lines rest)
  pub fits : line + count ≤ 2 ^ 63
  pub before : passed ≤ line
  pub read : passed ≤ length (lines begun)
  pub behind : drop passed (lines begun) ≡ lines rest
