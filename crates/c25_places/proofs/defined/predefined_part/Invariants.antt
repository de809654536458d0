-- the first such name among the tokens that are left is the first of all
use Rattle.std.proofs.Common.{◌≡◌, drop}
use Rattle.c25_expr.specs.Pieces.{pieces_of}
use Rattle.c25_places.specs.Defined.{predefined_in}
use Rattle.c25_places.proofs.defined.predefined_part.Given as goal

abbrev pub invariant-loop-token : goal.invariant-loop-token
invariant-loop-token l = predefined_in (pieces_of (drop l.token-index l.tokens)) ≡ predefined_in (pieces_of l.tokens)
