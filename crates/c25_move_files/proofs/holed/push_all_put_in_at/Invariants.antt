-- the lines so far, with those that the notes that are left put in, are all
use Rattle.std.proofs.Common.{◌≡◌, ◌++◌, drop, map, string_bytes}
use Rattle.c25_move_files.specs.Holed.{all_put_in_at}
use Rattle.c25_move_files.specs.Notes.{noted}
use Rattle.c25_move_files.proofs.holed.push_all_put_in_at.Given as goal

abbrev pub invariant-loop-note : goal.invariant-loop-note
invariant-loop-note l = map string_bytes l.lines.items ++ all_put_in_at l.spot.side l.spot.file.now l.spot.line (map noted (drop l.note-index l.notes)) ≡ map string_bytes l.initial.lines.items ++ all_put_in_at l.spot.side l.spot.file.now l.spot.line (map noted l.notes)
