-- the notes so far, with those of the files that are left, are all
use Rattle.std.proofs.Common.{◌≡◌, ◌++◌, drop, map}
use Rattle.c25_move_files.specs.Files.{moved_of, notes_of_files}
use Rattle.c25_move_files.specs.Notes.{noted}
use Rattle.c25_move_files.proofs.notes.push_files.Given as goal

abbrev pub invariant-loop-file : goal.invariant-loop-file
invariant-loop-file l = map noted l.notes.items ++ notes_of_files (map moved_of (drop l.file-index l.files)) ≡ map noted l.initial.notes.items ++ notes_of_files (map moved_of l.files)
