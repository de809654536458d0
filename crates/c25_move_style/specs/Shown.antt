-- Which style a line shows, and the first line of a source that shows one: by the words of directives, with a dot or
-- without one. Instructions alone show none.
use Rattle.std.specs.Prelude.{ℕ, ◌+◌, ◌==◌, Bool, true, false, ◌||◌, if◌then◌else◌, List, [], ◌∷◌, codes, slice_index, Option, Some, None, is_some}
use Rattle.std.specs.Str.{str_eq_ignore_ascii_case}
use Rattle.std.specs.Str.Lines.{lines}
use Rattle.c25_meaning_language.specs.Line.{first_word}
use Rattle.c25_move_lines.specs.Directives.{renamed}
use Rattle.c25_move_lines.specs.declared.style.Style.{Style}
use Rattle.c25_move_lines.specs.declared.style.Style.TheVariants.{Early, Coff}

-- the directives without a dot that have another form than the COFF assembler's
abbrev pub early_words : List (List ℕ)
early_words =
    codes "AORG" ∷ codes "RORG" ∷ codes "PSEG" ∷ codes "PEND" ∷ codes "DSEG" ∷ codes "DEND" ∷ codes "CSEG" ∷ codes "CEND"
    ∷ codes "DORG" ∷ codes "BSS" ∷ codes "BES" ∷ codes "EVEN" ∷ []

-- whether two words have the same letters, in either case
unfoldable pub is_spelled : List ℕ → List ℕ → Bool
is_spelled word other = str_eq_ignore_ascii_case word other

-- whether a word is one of these, letters in either case
unfoldable pub is_one_of : List (List ℕ) → List ℕ → Bool
is_one_of [] word = false
is_one_of (w ∷ ws) word = if is_spelled word w then true else is_one_of ws word

-- whether a word is one of the early words
unfoldable pub has_other_form : List ℕ → Bool
has_other_form word = is_one_of early_words word

-- whether a word is a directive without a dot
abbrev pub is_early : List ℕ → Bool
is_early word = is_some (renamed word) || has_other_form word

-- whether a word begins with a dot
abbrev pub is_dotted : List ℕ → Bool
is_dotted word = slice_index word 0 == 46

-- the style that a word shows
abbrev pub word_style : List ℕ → Option Style
word_style word = if is_dotted word then Some Coff else (if is_early word then Some Early else None)

-- the style that a line shows
abbrev pub line_style : Option (List ℕ) → Option Style
line_style None = None
line_style (Some word) = word_style word

-- whether a line shows this style
abbrev pub is_style : Style → Option Style → Bool
is_style Early (Some Early) = true
is_style Coff (Some Coff) = true
is_style style shown = false

-- whether a word ends a source in one of the styles
abbrev pub ends_by : Option (List ℕ) → Bool
ends_by None = false
ends_by (Some word) = str_eq_ignore_ascii_case word (codes ".end") || str_eq_ignore_ascii_case word (codes "END")

-- the number of the first of these lines that shows a style, up to the line that ends the source; `number` is that of
-- the first of them
unfoldable pub first_from : Style → (number : ℕ) → List (List ℕ) → Option ℕ
first_from style number [] = None
first_from style number (l ∷ ls) =
    if is_style style (line_style (first_word l)) then Some number
    else (if ends_by (first_word l) then None else first_from style (number + 1) ls)

-- the number of the first line of a text that shows a style
abbrev pub first_showing : Style → List ℕ → Option ℕ
first_showing style text = first_from style 1 (lines text)
