-- the text so far, with that of the lines that are left, is that of all
use Rattle.std.proofs.Common.{◌≡◌, ◌++◌, drop, map}
use Rattle.std.specs.Prelude.{string_bytes}
use Rattle.c25_move.specs.Rewritten.{new_text, rewritten_of}
use Rattle.c25_move.proofs.source.new_text.Given as goal

abbrev pub invariant-loop-line : goal.invariant-loop-line
invariant-loop-line l = string_bytes l.text ++ new_text (map rewritten_of (drop l.line-index l.lines)) ≡ new_text (map rewritten_of l.lines)
