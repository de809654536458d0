use Rattle.std.proofs.Common.{◌≡◌, List, sym, ap, subst, ◌∙◌}
use Rattle.c25_meaning_language.specs.Line.{Piece}
use Rattle.c25_meaning_language.specs.Operands.{operands_of}
use Rattle.c25_expr.specs.Pieces.{pieces_of, operands_view}
use Rattle.c25_places.proofs.Pieces.{AllWithin, operands_within}
use Rattle.c25_places.proofs.TokenFacts.{first_within}
use Rattle.c25_places.proofs.defined.first_standing.Goals as goal

pub standing_part-requires : goal.standing_part-requires
standing_part-requires c =
    let pieces : List Piece = pieces_of c.args.tokens.now in
    let operands : operands_view c.as_slice.result.now ≡ operands_of pieces = ap operands_view c.as_slice.ensures.value ∙ c.in_ok-operands.ensures in
    let all : AllWithin 0 18446744073709551615 (operands_view c.as_slice.result.now) = subst (AllWithin 0 18446744073709551615) (sym operands) (operands_within 18446744073709551615 pieces c.requires) in
    first_within 18446744073709551615 c.as_slice.result.now _ all (rw c.in-Some.is at c.first.ensures.value)
