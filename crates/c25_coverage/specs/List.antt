-- Counts of lines next to the lines of the sources (this project's own).
use Rattle.std.specs.Prelude.{ℕ, ◌-◌, List, [], ◌++◌, Option, None, Some, codes, length, replicate, unwrap_or}
use Rattle.std.specs.BTreeMap.{is_at}
use Rattle.std.specs.Fmt.{decimal}
use Rattle.std.specs.List.{flat_map}
use Rattle.std.specs.Map.{lookup}
use Rattle.std.specs.Ordering.{nat_cmp}
use Rattle.c25_coverage.specs.Branches.{CountedBranch, counted_branches, have_acted, ways_of}
use Rattle.c25_coverage.specs.Lcov.{times_text}
use Rattle.c25_coverage.specs.Lines.{CountedPlace, counted_places, files_of, lines_of}
use Rattle.c25_coverage.specs.declared.branches.Ways.{Ways}
use Rattle.c25_meaning_expansion.specs.Files.{Files, text_named}
use Rattle.c25_meaning_expansion.specs.Rows.{Row, rows_of}
use Rattle.c25_meaning_linking.specs.Linking.{ImageData}

-- the column of a count: its decimal digits, at the right of ten columns; blanks for a line without an instruction
abbrev pub count_column : Option ℕ → List ℕ
count_column None = replicate 10 32
count_column (Some count) = replicate (10 - length (decimal count)) 32 ++ decimal count

-- how often the conditional branches of a line were taken and how often they passed, on a line under it; nothing, if it has
-- none
abbrev pub ways_line : Option Ways → List ℕ
ways_line None = []
ways_line (Some ways) =
    codes "            taken " ++ times_text (have_acted ways) ways.taken ++ codes ", passed " ++ times_text (have_acted ways) ways.passed ++ codes "\n"

-- a line of a source after its count, and before the ways of its branches
abbrev pub counted_line : Option ℕ → Option Ways → List ℕ → List ℕ
counted_line count ways line = (count_column count ++ codes "  " ++ line ++ codes "\n") ++ ways_line ways

-- a line of a file with its count and the ways of its branches, which are among those of the file's lines
abbrev pub counted_row : List (ℕ × ℕ) → List (ℕ × Ways) → Row → List ℕ
counted_row counts ways row =
    counted_line (lookup (is_at (nat_cmp row.place.line)) counts) (lookup (is_at (nat_cmp row.place.line)) ways) row.text

-- a file: its name, then each of its lines with its count, then an empty line
abbrev pub file_text : (name text : List ℕ) → List (ℕ × ℕ) → List (ℕ × Ways) → List ℕ
file_text name text counts ways = (name ++ codes "\n") ++ flat_map (counted_row counts ways) (rows_of 0 text) ++ codes "\n"

-- the text of the file of this name; empty where there is no such file
abbrev pub text_of : Files → List ℕ → List ℕ
text_of files name = unwrap_or (text_named files name) []

-- the file of this name with the instructions and the branches that stand in it
abbrev pub named_text : Files → List CountedPlace → List CountedBranch → List ℕ → List ℕ
named_text files places branches name = file_text name (text_of files name) (lines_of places name) (ways_of branches name)

-- all files in which instructions stand, one after another
abbrev pub list_text : Files → ImageData → (acts passes : ℕ → ℕ) → List ℕ
list_text files image acts passes =
    let places = counted_places image acts in
    let branches = counted_branches image acts passes in
    flat_map (named_text files places branches) (files_of places)
