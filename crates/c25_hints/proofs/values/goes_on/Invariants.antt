-- one of the tokens that are left stands there where one of all does
use Rattle.std.proofs.Common.{◌≡◌, drop}
use Rattle.c25_expr.specs.Pieces.{pieces_of}
use Rattle.c25_hints.specs.Values.{goes_on}
use Rattle.c25_hints.proofs.values.goes_on.Given as goal

abbrev pub invariant-loop-token : goal.invariant-loop-token
invariant-loop-token l = goes_on l.place (pieces_of (drop l.token-index l.tokens)) ≡ goes_on l.place (pieces_of l.tokens)
