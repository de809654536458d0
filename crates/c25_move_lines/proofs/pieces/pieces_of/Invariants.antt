-- the pieces so far, with the characters that are left, are the text
use Rattle.std.proofs.Common.{◌≡◌, ◌++◌, length, drop, encode_utf8_all, string_bytes}
use Rattle.std.specs.Str.{chars}
use Rattle.c25_move_lines.specs.Pieces.{text_of}
use Rattle.c25_move_lines.proofs.pieces.pieces_of.Given as goal

abbrev pub invariant-loop-c : goal.invariant-loop-c
invariant-loop-c l = (text_of l.pieces.items ++ string_bytes l.last.text) ++ encode_utf8_all (drop (length l.yielded) (chars l.text)) ≡ l.text
