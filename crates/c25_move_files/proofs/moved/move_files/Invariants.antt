-- each file so far is moved
use Rattle.std.proofs.Common.{map, take}
use Rattle.std.specs.List.{AllZip}
use Rattle.c25_move_files.specs.Files.{IsMovedTo, moved_of, old_of}
use Rattle.c25_move_files.proofs.moved.move_files.Given as goal

abbrev pub invariant-loop-file : goal.invariant-loop-file
invariant-loop-file l = AllZip (IsMovedTo l.manner.style (map (λ n. n.now) l.manner.macros.now) l.manner.folder.now) (map old_of (take l.file-index l.files)) (map moved_of l.moved.items)
