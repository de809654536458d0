-- the lines so far, with those that are left, are all
use Rattle.std.proofs.Common.{◌≡◌, ◌++◌, drop, map, string_bytes}
use Rattle.c25_move_files.proofs.holed.push_lines.Given as goal

abbrev pub invariant-loop-line : goal.invariant-loop-line
invariant-loop-line l = map string_bytes l.lines.items ++ map string_bytes (drop l.line-index l.others) ≡ map string_bytes l.initial.lines.items ++ map string_bytes l.others
