-- the files so far, with those that are left and what notes put in, are all
use Rattle.std.proofs.Common.{◌≡◌, ◌++◌, drop, map}
use Rattle.c25_move_files.specs.Files.{moved_of}
use Rattle.c25_move_files.specs.Holed.{holed}
use Rattle.c25_move_files.specs.Notes.{noted}
use Rattle.c25_move_files.proofs.holed.files_with_holes.Given as goal

abbrev pub invariant-loop-file : goal.invariant-loop-file
invariant-loop-file l = map moved_of l.files.items ++ map (holed (map noted l.notes)) (map moved_of (drop l.file-index l.moved)) ≡ map (holed (map noted l.notes)) (map moved_of l.moved)
