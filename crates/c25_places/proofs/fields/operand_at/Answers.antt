use Rattle.std.proofs.Common.{◌≡◌, List, length, refl, sym, ap, subst, ◌∙◌}
use Rattle.std.proofs.lemmas.Option.{slice_get_read}
use Rattle.c25_meaning_language.specs.Line.{Piece}
use Rattle.c25_meaning_language.specs.Operands.{operands_of}
use Rattle.c25_expr.specs.Pieces.{pieces_of, operands_view}
use Rattle.c25_places.proofs.Pieces.{AllWithin, operands_within}
use Rattle.c25_places.proofs.TokenFacts.{got_within}
use Rattle.c25_places.proofs.fields.operand_at.Goals as goal

pub operand_part-requires-clause-operand : goal.operand_part-requires-clause-operand
operand_part-requires-clause-operand c =
    let pieces : List Piece = pieces_of c.args.tokens.now in
    let operands : operands_view c.as_slice.result.now ≡ operands_of pieces = ap operands_view c.as_slice.ensures.value ∙ c.in_ok-operands.ensures in
    let all : AllWithin 0 18446744073709551615 (operands_view c.as_slice.result.now) = subst (AllWithin 0 18446744073709551615) (sym operands) (operands_within 18446744073709551615 pieces c.requires) in
    let found = c.in-Some.ensures.lookup in
    got_within 18446744073709551615 c.as_slice.result.now c.args.index _ all (slice_get_read c.as_slice.result.now (length c.as_slice.result.now) c.args.index _ refl found.3.0 found.1)
