-- How often the lines of the sources act (this project's own).
use Rattle.std.specs.Prelude.{ℕ, ◌+◌, ◌-◌, ◌^◌, List, [], ◌∷◌, ◌++◌, Option, None, Some, fold, min, unwrap_or, if◌then◌else◌}
use Rattle.std.specs.List.{flat_map, list_any}
use Rattle.std.specs.BTreeMap.{insert_entry, is_at}
use Rattle.std.specs.Map.{lookup}
use Rattle.std.specs.Ordering.{nat_cmp}
use Rattle.std.specs.Str.{bytes_eq}
use Rattle.c25_meaning_linking.specs.Linking.{ImageData, line_at}
use Rattle.c25_meaning_linking.specs.Words.{LineData}

-- an instruction: the file and the line where it stands in the sources, and how often it acted
pub record CountedPlace : Type 0 where
  pub file : List ℕ
  pub line : ℕ
  pub count : ℕ

-- an instruction that stands in this line, if its line is known
abbrev pub counted_place : Option (List ℕ × ℕ) → ℕ → List CountedPlace
counted_place None count = []
counted_place (Some place) count = record { file = place.0; line = place.1; count = count } ∷ []

-- the instructions of an image whose lines are known: first those that run where they are loaded, then those that run in block
-- B0, each with the count of the address where it runs
abbrev pub counted_places : ImageData → (ℕ → ℕ) → List CountedPlace
counted_places image count =
    flat_map (λ m. counted_place (line_at m.address image.lines) (count m.address)) image.marks
    ++ flat_map (λ m. counted_place (line_at m.load image.lines) (count m.run)) image.run_marks

-- ---- files

-- names of files, and this one at the end, unless it is among them
abbrev pub with_file : List (List ℕ) → List ℕ → List (List ℕ)
with_file files name = if list_any (bytes_eq name) files then files else files ++ name ∷ []

-- the files in which instructions stand, in the order of the first of each
abbrev pub files_of : List CountedPlace → List (List ℕ)
files_of places = fold (λ files place. with_file files place.file) [] places

-- ---- lines of a file, each with its count

-- a line's count with one more instruction; 2^64 - 1 stands for all higher counts
abbrev pub more : Option ℕ → ℕ → ℕ
more count added = min (unwrap_or count 0 + added) (2 ^ 64 - 1)

-- the lines of a file with their counts, in the order of the lines, with one more instruction
abbrev pub with_place : List ℕ → List (ℕ × ℕ) → CountedPlace → List (ℕ × ℕ)
with_place file lines place =
    if bytes_eq place.file file
    then insert_entry nat_cmp lines place.line (more (lookup (is_at (nat_cmp place.line)) lines) place.count)
    else lines

-- the lines of a file in which instructions stand, in ascending order, each with the sum of the counts of its instructions
abbrev pub lines_of : List CountedPlace → List ℕ → List (ℕ × ℕ)
lines_of places file = fold (with_place file) [] places
