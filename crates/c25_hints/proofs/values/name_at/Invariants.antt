-- the name among the tokens that are left is that among all
use Rattle.std.proofs.Common.{◌≡◌, drop}
use Rattle.c25_expr.specs.Pieces.{pieces_of}
use Rattle.c25_hints.specs.Values.{name_at}
use Rattle.c25_hints.proofs.values.name_at.Given as goal

abbrev pub invariant-loop-token : goal.invariant-loop-token
invariant-loop-token l = name_at l.start (pieces_of (drop l.token-index l.tokens)) ≡ name_at l.start (pieces_of l.tokens)
