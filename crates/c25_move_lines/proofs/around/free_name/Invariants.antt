-- with fewer `_` the name stands in the source
use Rattle.std.proofs.Common.{◌+◌, ◌-◌, length, string_bytes}
use Rattle.c25_move_lines.proofs.Names.{IsLong}
use Rattle.c25_move_lines.proofs.around.free_name.Given as goal

abbrev pub invariant-loop-free : goal.invariant-loop-free
invariant-loop-free l = IsLong l.source l.name (string_bytes l.free)

abbrev pub decreases-loop-free : goal.decreases-loop-free
decreases-loop-free l = (length l.source + 1) - length (string_bytes l.free)
