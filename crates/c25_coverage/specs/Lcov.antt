-- Counts of lines and of their conditional branches as a text that lcov reads (geninfo(1), "Files").
use Rattle.std.specs.Prelude.{ℕ, Bool, List, [], ◌∷◌, ◌++◌, codes, count_by, length, nat_lt, if◌then◌else◌}
use Rattle.std.specs.Fmt.{decimal}
use Rattle.std.specs.List.{flat_map}
use Rattle.c25_coverage.specs.Branches.{counted_branches, have_acted, ways_of}
use Rattle.c25_coverage.specs.Lines.{counted_places, files_of, lines_of}
use Rattle.c25_coverage.specs.declared.branches.Ways.{Ways}
use Rattle.c25_meaning_linking.specs.Linking.{ImageData}

-- a line of a number after its name
abbrev pub number_text : List ℕ → ℕ → List ℕ
number_text name number = name ++ decimal number ++ codes "\n"

-- ---- branches

-- how often the branches of a line went a way; "-" where none of them acted
abbrev pub times_text : Bool → ℕ → List ℕ
times_text acted times = if acted then decimal times else codes "-"

-- one way of the branches of a line: block 0, way 0 for those taken and 1 for those that passed
abbrev pub way_text : ℕ → List ℕ → Bool → ℕ → List ℕ
way_text line way acted times = codes "BRDA:" ++ decimal line ++ way ++ times_text acted times ++ codes "\n"

-- both ways of the branches of a line
abbrev pub branch_text : ℕ × Ways → List ℕ
branch_text line =
    let acted = have_acted line.1 in
    way_text line.0 (codes ",0,0,") acted line.1.taken ++ way_text line.0 (codes ",0,1,") acted line.1.passed

-- how often each way of the branches of these lines was gone
abbrev pub ways_in : List (ℕ × Ways) → List ℕ
ways_in lines = flat_map (λ line. line.1.taken ∷ line.1.passed ∷ []) lines

-- how many ways there are, and how many of them have a count that is not 0
abbrev pub ways_text : List ℕ → List ℕ
ways_text ways = number_text (codes "BRF:") (length ways) ++ number_text (codes "BRH:") (count_by (nat_lt 0) ways)

-- the lines with branches, and how many ways they have; nothing of a file without branches
abbrev pub branches_text : List (ℕ × Ways) → List ℕ
branches_text [] = []
branches_text (line ∷ lines) = flat_map branch_text (line ∷ lines) ++ ways_text (ways_in (line ∷ lines))

-- ---- lines

-- a line and its count
abbrev pub line_text : ℕ × ℕ → List ℕ
line_text line = codes "DA:" ++ decimal line.0 ++ codes "," ++ decimal line.1 ++ codes "\n"

-- how many lines there are, and how many of them have a count that is not 0
abbrev pub summary_text : List (ℕ × ℕ) → List ℕ
summary_text lines = number_text (codes "LF:") (length lines) ++ number_text (codes "LH:") (count_by (λ line. nat_lt 0 line.1) lines) ++ codes "end_of_record\n"

-- ---- files

-- the record of a file with these branches and lines
abbrev pub record_text : List ℕ → List (ℕ × Ways) → List (ℕ × ℕ) → List ℕ
record_text file branches lines = (codes "TN:\nSF:" ++ file ++ codes "\n") ++ branches_text branches ++ flat_map line_text lines ++ summary_text lines

-- the records of all files, one after another
abbrev pub lcov_text : ImageData → (acts passes : ℕ → ℕ) → List ℕ
lcov_text image acts passes =
    let places = counted_places image acts in
    let branches = counted_branches image acts passes in
    flat_map (λ file. record_text file (ways_of branches file) (lines_of places file)) (files_of places)
