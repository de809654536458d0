-- Texts of one item a line: an item is read from the fields of a line, and lines without fields are passed
-- over (this project's own). Lines end in LF or CR LF, as std's `lines` has them; a lone CR ends no line and
-- is no blank, so it is a part of a field.
use Rattle.std.specs.Prelude.{ℕ, ◌+◌, ◌==◌, not, List, [], ◌∷◌, ◌++◌, length, filter, Option, Some, option_map, ok_or, Result, Ok, if◌then◌else◌}
use Rattle.std.specs.List.{slice_split}
use Rattle.std.specs.Str.Lines.{lines}
use Rattle.c25_meaning_common.specs.Bytes.{is_blank}
use Rattle.c25_meaning_common.specs.Results.{◌>>=◌}

-- the fields of a line: the runs of bytes that blanks and tabs separate
abbrev pub line_words : List ℕ → List (List ℕ)
line_words line = filter (λ w. not (length w == 0)) (slice_split is_blank line)

-- how an item is read: from the items before it and the fields of its line, if they make one
abbrev pub ItemOf : Type 0 → Type 0
ItemOf A = List A → List (List ℕ) → Option A

-- the items so far with the item of one more line; a line without fields adds none, and there is no answer
-- where the fields make no item
abbrev pub with_line : {A : Type 0} → ItemOf A → List A → List (List ℕ) → Option (List A)
with_line item before words = if length words == 0 then Some before else option_map (λ a. before ++ a ∷ []) (item before words)

-- the items so far with those of these lines, the first of which has this number; or the number of the first
-- faulty line
unfoldable pub items : {A : Type 0} → ItemOf A → List A → ℕ → List (List ℕ) → Result (List A) ℕ
items item before number [] = Ok before
items item before number (line ∷ rest) = ok_or (with_line item before (line_words line)) number >>= λ now. items item now (number + 1) rest

-- the items of a text, or the number of its first faulty line, counted from 1
abbrev pub items_of : {A : Type 0} → ItemOf A → List ℕ → Result (List A) ℕ
items_of item text = items item [] 1 (lines text)
