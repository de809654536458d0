-- Lines that reserve words in `.bss`, put in around lines that are moved, so that blocks lie in pages of data memory.
use Rattle.std.specs.Prelude.{ℕ, ◌==◌, Bool, true, false, ◌&&◌, if◌then◌else◌, List, [], ◌∷◌, ◌++◌, bytes_eq, codes}
use Rattle.std.specs.List.{flat_map}
use Rattle.c25_move.specs.Rewritten.{Rewritten}
use Rattle.c25_move_files.specs.Files.{Moved}
use Rattle.c25_move_files.specs.Notes.{Noted, hole_line, later}
use Rattle.c25_move_files.specs.declared.notes.Hole.{Hole}
use Rattle.c25_move_files.specs.declared.notes.HoleSide.{HoleSide}
use Rattle.c25_move_files.specs.declared.notes.HoleSide.TheVariants.{Before, After}
use Rattle.c25_move_files.specs.declared.notes.NoteKind.{NoteKind}
use Rattle.c25_move_files.specs.declared.notes.NoteKind.TheVariants as kind

-- the line of a hole, as it stands in a source
abbrev pub hole_row : Hole → List ℕ
hole_row h = codes "        " ++ hole_line h

abbrev pub is_side : (one other : HoleSide) → Bool
is_side Before Before = true
is_side Before After = false
is_side After Before = false
is_side After After = true

-- the lines that a note puts in on a side of its line
abbrev pub put_in : HoleSide → NoteKind → List (List ℕ)
put_in side (kind.HolePutIn hole) = if is_side hole.side side then hole_row hole ∷ [] else []
put_in side _ = []

-- the lines that a note puts in on a side of this line of a file
abbrev pub put_in_at : HoleSide → (file : List ℕ) → (line : ℕ) → Noted → List (List ℕ)
put_in_at side file line n = if (n.line == line && bytes_eq n.file file) then put_in side n.kind else []

-- the lines that notes put in on a side of this line of a file
abbrev pub all_put_in_at : HoleSide → (file : List ℕ) → (line : ℕ) → List Noted → List (List ℕ)
all_put_in_at side file line notes = flat_map (put_in_at side file line) notes

-- a line that is moved, and the lines that notes put in around it
abbrev pub with_holes : List Noted → (file : List ℕ) → (line : ℕ) → Rewritten → Rewritten
with_holes notes file line m = record m { lines = (all_put_in_at Before file line notes ++ m.lines) ++ all_put_in_at After file line notes }

-- lines of a file from this number on
unfoldable pub lines_with_holes : List Noted → (file : List ℕ) → (number : ℕ) → List Rewritten → List Rewritten
lines_with_holes notes file number [] = []
lines_with_holes notes file number (m ∷ ms) = with_holes notes file number m ∷ lines_with_holes notes file (later number 1) ms

-- a file that is moved, and the lines that notes put in
abbrev pub holed : List Noted → Moved → Moved
holed notes m = record m { lines = lines_with_holes notes m.names.old 1 m.lines }
