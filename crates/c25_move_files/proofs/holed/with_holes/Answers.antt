use Rattle.c25_move_files.specs.Files.{moved_of}
use Rattle.c25_move_files.specs.Notes.{noted}
use Rattle.c25_move_files.proofs.Holes.{no_holes}
use Rattle.c25_move_files.proofs.holed.with_holes.Goals as goal
use Rattle.std.proofs.Common.{map, sym}

pub returns-then-is_empty : goal.returns-then-is_empty
returns-then-is_empty c = no_holes c.args.notes.now (map moved_of c.args.moved.files.items) (sym c.if-is_empty.ensures)
