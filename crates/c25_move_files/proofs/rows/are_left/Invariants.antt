-- one of the notes that are left says so where one of all does
use Rattle.std.proofs.Common.{◌≡◌, drop, map}
use Rattle.c25_move_files.specs.Notes.{are_left, noted}
use Rattle.c25_move_files.proofs.rows.are_left.Given as goal

abbrev pub invariant-loop-note : goal.invariant-loop-note
invariant-loop-note l = are_left (map noted (drop l.note-index l.notes)) ≡ are_left (map noted l.notes)
