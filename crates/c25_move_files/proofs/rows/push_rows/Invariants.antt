-- the text so far, with the lines of the notes that are left, is that with the lines of all
use Rattle.std.proofs.Common.{◌≡◌, ◌++◌, drop, map, string_bytes}
use Rattle.c25_move_files.specs.Notes.{noted, rows}
use Rattle.c25_move_files.proofs.rows.push_rows.Given as goal

abbrev pub invariant-loop-note : goal.invariant-loop-note
invariant-loop-note l = string_bytes l.text ++ rows l.quiet (map noted (drop l.note-index l.notes)) ≡ string_bytes l.initial.text ++ rows l.quiet (map noted l.notes)
