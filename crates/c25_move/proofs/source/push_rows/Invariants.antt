-- the text so far, with that of the lines that are left, is that of all
use Rattle.std.proofs.Common.{◌≡◌, ◌++◌, drop, map}
use Rattle.std.specs.Prelude.{string_bytes}
use Rattle.c25_move.specs.Rewritten.{rows_of}
use Rattle.c25_move.proofs.source.push_rows.Given as goal

abbrev pub invariant-loop-place : goal.invariant-loop-place
invariant-loop-place l = string_bytes l.text ++ rows_of l.end (map string_bytes (drop l.place l.lines)) ≡ string_bytes l.initial.text ++ rows_of l.end (map string_bytes l.lines)
