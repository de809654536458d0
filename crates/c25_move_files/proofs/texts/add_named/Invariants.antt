-- the texts so far, with the files that are left, are those with all
use Rattle.std.proofs.Common.{◌≡◌, drop, map}
use Rattle.std.specs.List.{fold}
use Rattle.c25_move_files.specs.Files.{new_of, with_file}
use Rattle.c25_move_files.proofs.texts.add_named.Given as goal

abbrev pub invariant-loop-file : goal.invariant-loop-file
invariant-loop-file l = fold with_file l.texts (map new_of (drop l.file-index l.files)) ≡ fold with_file l.initial.texts (map new_of l.files)
