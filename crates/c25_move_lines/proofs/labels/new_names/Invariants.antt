-- the names of the digits so far
use Rattle.std.proofs.Common.{map, string_bytes}
use Rattle.c25_move_lines.proofs.Names.{AreNamesBelow}
use Rattle.c25_move_lines.proofs.labels.new_names.Given as goal

abbrev pub invariant-loop-digit : goal.invariant-loop-digit
invariant-loop-digit l = AreNamesBelow (record { source = l.around.source.now; blocks = l.block }) l.digit (map string_bytes l.names.items)
