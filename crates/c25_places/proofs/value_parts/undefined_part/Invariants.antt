-- the first name among the tokens that are left is the first of all
use Rattle.std.proofs.Common.{◌≡◌, drop}
use Rattle.c25_expr.specs.Pieces.{pieces_of}
use Rattle.c25_places.specs.Values.{undefined_in}
use Rattle.c25_places.proofs.value_parts.undefined_part.Given as goal

abbrev pub invariant-loop-token : goal.invariant-loop-token
invariant-loop-token l = undefined_in l.symbols (pieces_of (drop l.token-index l.operand)) ≡ undefined_in l.symbols (pieces_of l.operand)
