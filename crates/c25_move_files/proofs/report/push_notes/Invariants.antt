-- the notes so far, with those that are left, are all
use Rattle.std.proofs.Common.{◌≡◌, ◌++◌, drop, map}
use Rattle.c25_move_files.specs.Notes.{noted}
use Rattle.c25_move_files.proofs.report.push_notes.Given as goal

abbrev pub invariant-loop-note : goal.invariant-loop-note
invariant-loop-note l = map noted l.notes.items ++ map noted (drop l.note-index l.others) ≡ map noted l.initial.notes.items ++ map noted l.others
