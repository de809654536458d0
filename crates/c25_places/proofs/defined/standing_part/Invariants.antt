-- the first such name among the tokens that are left is the first of all
use Rattle.std.proofs.Common.{◌≡◌, drop}
use Rattle.c25_expr.specs.Pieces.{pieces_of}
use Rattle.c25_places.specs.Defined.{standing_in}
use Rattle.c25_places.proofs.defined.standing_part.Given as goal

abbrev pub invariant-loop-token : goal.invariant-loop-token
invariant-loop-token l = standing_in l.symbols (pieces_of (drop l.token-index l.tokens)) ≡ standing_in l.symbols (pieces_of l.tokens)
