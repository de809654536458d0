-- the new files so far, with those of the files that are left, are all
use Rattle.std.proofs.Common.{◌≡◌, ◌++◌, drop, map}
use Rattle.c25_move_files.specs.Files.{contents, moved_of, new_of}
use Rattle.c25_move_files.proofs.new.push_new.Given as goal

abbrev pub invariant-loop-file : goal.invariant-loop-file
invariant-loop-file l = map new_of l.files.items ++ map (λ m. contents (moved_of m)) (drop l.file-index l.moved) ≡ map new_of l.initial.files.items ++ map (λ m. contents (moved_of m)) l.moved
