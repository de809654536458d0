-- the outputs so far, with those of the files that are left, are all
use Rattle.std.proofs.Common.{◌≡◌, ◌++◌, drop, map}
use Rattle.c25_disk.specs.Written.{contents_of}
use Rattle.c25_move_files.specs.Files.{new_of}
use Rattle.c25_move_files.proofs.new.outputs_of.Given as goal

abbrev pub invariant-loop-file : goal.invariant-loop-file
invariant-loop-file l = map contents_of l.outputs.items ++ map new_of (drop l.file-index l.files) ≡ map new_of l.files
