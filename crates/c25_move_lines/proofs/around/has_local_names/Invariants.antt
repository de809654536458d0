-- no name of a digit so far stands in the text
use Rattle.c25_move_lines.proofs.Names.{LacksBelow}
use Rattle.c25_move_lines.proofs.around.has_local_names.Given as goal

abbrev pub invariant-loop-digit : goal.invariant-loop-digit
invariant-loop-digit l = LacksBelow l.text l.digit
