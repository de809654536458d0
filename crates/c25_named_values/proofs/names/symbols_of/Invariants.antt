-- the names so far, and then those that are left
use Rattle.std.proofs.Common.{◌≡◌, drop}
use Rattle.c25_expr.specs.Pieces.{pieces_of}
use Rattle.c25_named_values.specs.Known.{first_table, with_pieces}
use Rattle.c25_named_values.proofs.names.symbols_of.Given as goal

abbrev pub invariant-loop-token : goal.invariant-loop-token
invariant-loop-token g l =
    let addresses = g.N.Names.address_of l.names in
    with_pieces addresses l.symbols (pieces_of (drop l.token-index l.tokens)) ≡ with_pieces addresses (first_table l.here) (pieces_of l.tokens)
