-- The listing of a module: its expanded lines next to the words that they made (this project's own; SPRU018,
-- source listings, has more columns).
use Rattle.std.specs.Prelude.{ℕ, zero, suc, ◌+◌, ◌-◌, ◌==◌, ◌&&◌, Bool, true, false, List, [], ◌∷◌, ◌++◌, length, replicate, slice_index, nat_lt, codes}
use Rattle.std.specs.Fmt.{decimal}
use Rattle.std.specs.List.{list_any}
use Rattle.c25_meaning_language.specs.Arguments.{trimmed_end}
use Rattle.c25_meaning_objects.specs.Module.{Contents, words_at}
use Rattle.c25_meaning_common.specs.Digits.{four_digits}
use Rattle.c25_meaning_objects.specs.declared.object.Relocation.{Relocation}

-- an entry of the listing: a line, and where the words that it made begin and how many there are
pub record Entry : Type 0 where
  pub line : ℕ
  pub text : List ℕ
  pub section : ℕ
  pub offset : ℕ
  pub count : ℕ

-- `n` blanks
abbrev pub blanks : ℕ → List ℕ
blanks n = replicate n 32

-- a text at the right of `width` columns
abbrev pub at_right : ℕ → List ℕ → List ℕ
at_right width text = blanks (width - length text) ++ text

-- a line's number in decimal, at the right of six columns
abbrev pub number_column : ℕ → List ℕ
number_column line = at_right 6 (decimal line)

-- a line of the listing, without blanks at its end
abbrev pub listed : List ℕ → List ℕ
listed text = trimmed_end text ++ codes "\n"

-- whether a relocation concerns the word at this offset of this section
abbrev pub is_at : ℕ → ℕ → Relocation → Bool
is_at section offset r = r.section == section && r.offset == offset

-- whether there is a word at this offset of this section, and it has a relocation
abbrev pub is_relocated : Contents → ℕ → ℕ → Bool
is_relocated m section offset =
    nat_lt offset (length (words_at m.sections section)) && list_any (is_at section offset) m.relocations

-- the sign after a word: `'` if it is relocated, else a blank
abbrev pub sign : Bool → List ℕ
sign true = codes "'"
sign false = codes " "

-- the column of a word: its offset, its value and its sign
abbrev pub word_column : Contents → ℕ → ℕ → List ℕ
word_column m section offset =
    four_digits offset ++ codes " " ++ four_digits (slice_index (words_at m.sections section) offset) ++ sign (is_relocated m section offset)

-- a line of the listing with one word: a number or blanks, the word, and a text
abbrev pub word_line : Contents → ℕ → ℕ → List ℕ → List ℕ → List ℕ
word_line m section offset number text = listed (number ++ codes " " ++ word_column m section offset ++ codes " " ++ text)

-- the lines of the further words of a source line, from an offset on: one a word, without number and text
abbrev pub further : Contents → ℕ → ℕ → ℕ → List ℕ
further m section offset zero = []
further m section offset (suc n) = word_line m section offset (blanks 6) [] ++ further m section (offset + 1) n

-- the lines of an entry with this many words
abbrev pub entry_by : ℕ → Contents → Entry → List ℕ
entry_by zero m e = listed (number_column e.line ++ blanks 12 ++ e.text)
entry_by (suc n) m e =
    word_line m e.section e.offset (number_column e.line) e.text ++ further m e.section (e.offset + 1) n

-- the lines of an entry
abbrev pub entry_text : Contents → Entry → List ℕ
entry_text m e = entry_by e.count m e

-- the listing of these entries
abbrev pub listing_text : Contents → List Entry → List ℕ
listing_text m [] = []
listing_text m (e ∷ es) = entry_text m e ++ listing_text m es
