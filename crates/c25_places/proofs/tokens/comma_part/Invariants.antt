-- the comma among the tokens that are left is that among all
use Rattle.std.proofs.Common.{◌≡◌, drop}
use Rattle.c25_expr.specs.Pieces.{pieces_of}
use Rattle.c25_places.specs.Refused.{comma_at}
use Rattle.c25_places.proofs.tokens.comma_part.Given as goal

abbrev pub invariant-loop-token : goal.invariant-loop-token
invariant-loop-token l = comma_at l.left (pieces_of (drop l.token-index l.tokens)) ≡ comma_at l.index (pieces_of l.tokens)
