use Rattle.std.proofs.Common.{◌≡◌, ◌++◌, drop}
use Rattle.std.specs.List.{flat_map}
use Rattle.std.specs.Option.{option_map}
use Rattle.c25_expr.specs.Pieces.{pieces_of}
use Rattle.c25_uses.specs.UsedNames.{bytes_of}
use Rattle.c25_uses.specs.Uses.{name_used}
use Rattle.c25_uses.proofs.uses.push_used.Given as goal

abbrev pub invariant-loop-token : goal.invariant-loop-token
invariant-loop-token l =
    bytes_of l.names.items ++ flat_map (name_used (option_map (λ t. t.now) l.own)) (pieces_of (drop l.token-index l.tokens))
    ≡ bytes_of l.initial.names.items ++ flat_map (name_used (option_map (λ t. t.now) l.own)) (pieces_of l.tokens)
