-- the lines so far, with those that are left and what notes put in around these, are all
use Rattle.std.proofs.Common.{◌≡◌, ◌++◌, drop, map}
use Rattle.c25_move.specs.Rewritten.{rewritten_of}
use Rattle.c25_move_files.specs.Files.{moved_of}
use Rattle.c25_move_files.specs.Holed.{lines_with_holes}
use Rattle.c25_move_files.specs.Notes.{noted}
use Rattle.c25_move_files.proofs.holed.file_with_holes.Given as goal

abbrev pub invariant-loop-line : goal.invariant-loop-line
invariant-loop-line l = map rewritten_of l.lines.items ++ lines_with_holes (map noted l.notes) (moved_of l.moved).names.old l.number (map rewritten_of (drop l.line-index l.moved.lines.items)) ≡ lines_with_holes (map noted l.notes) (moved_of l.moved).names.old 1 (map rewritten_of l.moved.lines.items)
