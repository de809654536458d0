-- Lines of files, each with its place.
use Rattle.std.specs.Prelude.{ℕ, ◌+◌, ◌-◌, Bool, true, false, List, [], ◌∷◌, length, slice_get, Some, None}
use Rattle.std.specs.List.{position_or_len}
use Rattle.std.specs.Str.{bytes_eq}
use Rattle.std.specs.Str.Lines.{lines}
use Rattle.c25_meaning_expansion.specs.Files.{Files}
use Rattle.c25_meaning_common.specs.declared.placed.FileLine.{FileLine}

-- a line of a file: its place, and its text without the end of the line
pub record Row : Type 0 where
  pub place : FileLine ℕ
  pub text : List ℕ

-- lines of a file, the first of which has the number `line`
abbrev pub rows_from : ℕ → ℕ → List (List ℕ) → List Row
rows_from file line [] = []
rows_from file line (text ∷ texts) = record { place = record { file = file; line = line }; text = text } ∷ rows_from file (line + 1) texts

-- the lines of a file with this text, counted from 1; a line ends in LF or CR LF
abbrev pub rows_of : ℕ → List ℕ → List Row
rows_of file text = rows_from file 1 (lines text)

-- whether a list is empty
abbrev pub is_empty : {A : Type 0} → List A → Bool
is_empty [] = true
is_empty (x ∷ xs) = false

-- the place of the last of some lines, or this place if there are none
abbrev pub last_place : FileLine ℕ → List Row → FileLine ℕ
last_place place rows = elim (slice_get rows (length rows - 1)) [ None ↦ place | Some row ↦ row.place ]

-- the number of the file of this name, counted from 0 in the order in which files were added; the number of
-- files where there is no such file
abbrev pub file_number : Files → List ℕ → ℕ
file_number files name = position_or_len (λ file. bytes_eq name file.0) files
