-- the notes so far, with those of the lines that are left, are all
use Rattle.std.proofs.Common.{◌≡◌, ◌++◌, drop, map}
use Rattle.c25_move.specs.Rewritten.{rewritten_of}
use Rattle.c25_move_files.specs.Files.{moved_of}
use Rattle.c25_move_files.specs.Notes.{noted, notes_from, notes_of}
use Rattle.c25_move_files.proofs.notes.push_file.Given as goal

abbrev pub invariant-loop-line : goal.invariant-loop-line
invariant-loop-line l = map noted l.notes.items ++ notes_from (moved_of l.file).names l.numbers.old l.numbers.new (map rewritten_of (drop l.line-index l.file.lines.items)) ≡ map noted l.initial.notes.items ++ notes_of (moved_of l.file).names (map rewritten_of l.file.lines.items)
