-- the token among those that are left is that among all
use Rattle.std.proofs.Common.{◌≡◌, false, drop}
use Rattle.c25_expr.specs.Pieces.{pieces_of}
use Rattle.c25_hints.specs.Operands.{second_operand}
use Rattle.c25_hints.proofs.operands.second_operand.Given as goal

abbrev pub invariant-loop-token : goal.invariant-loop-token
invariant-loop-token l = second_operand l.ends (pieces_of (drop l.token-index l.tokens)) ≡ second_operand false (pieces_of l.tokens)
