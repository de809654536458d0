-- The blocks of a file's text, before expansion: the lines from an `.if`, `.loop` or `.macro` to the line that ends it.
use Rattle.std.specs.Prelude.{ℕ, ◌-◌, Bool, true, false, if◌then◌else◌, nat_le, List, [], ◌∷◌, ◌++◌, codes, length, slice_get, take, Option, Some, None}
use Rattle.std.specs.Str.{str_eq_ignore_ascii_case}
use Rattle.c25_meaning_expansion.specs.Rows.{Row, rows_of}
use Rattle.c25_meaning_language.specs.Line.{first_word}

-- the directives with which a block begins
abbrev pub openers : List (List ℕ)
openers = codes ".if" ∷ codes ".loop" ∷ codes ".macro" ∷ []

-- the directives with which a block ends
abbrev pub closers : List (List ℕ)
closers = codes ".endif" ∷ codes ".endloop" ∷ codes ".endm" ∷ []

-- whether two words have the same letters, in either case
unfoldable pub is_spelled : List ℕ → List ℕ → Bool
is_spelled word name = str_eq_ignore_ascii_case word name

-- whether a word is one of these, letters in either case
unfoldable pub is_one_of : List (List ℕ) → List ℕ → Bool
is_one_of [] word = false
is_one_of (d ∷ ds) word = if is_spelled d word then true else is_one_of ds word

-- whether the word of a line is one of these; a line may have no word
abbrev pub has_one_of : List (List ℕ) → Option (List ℕ) → Bool
has_one_of ds None = false
has_one_of ds (Some word) = is_one_of ds word

-- the numbers of the lines that began the blocks that are open, the innermost last, after a line of this number with
-- this word: a line that ends a block ends the innermost one
abbrev pub open_after_word : ℕ → Option (List ℕ) → List ℕ → List ℕ
open_after_word number word begun =
    if has_one_of openers word then begun ++ number ∷ []
    else (if has_one_of closers word then take (length begun - 1) begun else begun)

-- the same after a line that is among the lines up to this one
abbrev pub open_after_row : (last : ℕ) → Row → List ℕ → List ℕ
open_after_row last row begun = if nat_le row.place.line last then open_after_word row.place.line (first_word row.text) begun else begun

-- the same after lines
unfoldable pub open_after : (last : ℕ) → List Row → List ℕ → List ℕ
open_after last [] begun = begun
open_after last (row ∷ rows) begun = open_after last rows (open_after_row last row begun)

-- the last of some numbers
abbrev pub last_of : List ℕ → Option ℕ
last_of ns = slice_get ns (length ns - 1)

-- the number of the line that began the innermost block that is open after the line of this number, if one is open
abbrev pub innermost : (last : ℕ) → List ℕ → Option ℕ
innermost last text = last_of (open_after last (rows_of 0 text) [])
