-- The line that says how much of an image its source has (this project's own).
use Rattle.std.specs.Prelude.{ℕ, ◌+◌, ◌-◌, List, ◌++◌, codes}
use Rattle.std.specs.Fmt.{decimal}
use Rattle.c25_reach.specs.declared.reach.Reach.{Reach}

-- a number and what it counts
abbrev pub counted : ℕ → List ℕ → List ℕ
counted count what = decimal count ++ what

-- instructions, their words, and words of data
unfoldable pub reach_text : Reach → List ℕ
reach_text r = counted r.instructions (codes " instructions (") ++ counted r.instruction_words (codes " words), ") ++ counted r.data_words (codes " data, ")

-- how many words of an image are in no row
abbrev pub left_out : ℕ → Reach → ℕ
left_out words r = words - (r.instruction_words + r.data_words)

-- the line of an image of so many words, after a name
abbrev pub reach_line : List ℕ → ℕ → Reach → List ℕ
reach_line name words r = name ++ codes ": " ++ counted words (codes " words, ") ++ reach_text r ++ counted (left_out words r) (codes " left out as blank\n")
