-- the text so far, with the pieces that are left, is that of all
use Rattle.std.proofs.Common.{◌≡◌, ◌++◌, drop, string_bytes}
use Rattle.c25_move_lines.specs.Pieces.{text_of}
use Rattle.c25_move_lines.proofs.pieces.text_of.Given as goal

abbrev pub invariant-loop-piece : goal.invariant-loop-piece
invariant-loop-piece l = string_bytes l.text ++ text_of (drop l.piece-index l.pieces) ≡ text_of l.pieces
