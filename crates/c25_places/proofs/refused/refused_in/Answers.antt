use Rattle.std.proofs.Common.{◌≡◌, List, Some, sym, ap, ◌∙◌}
use Rattle.c25_meaning_language.specs.Line.{Piece}
use Rattle.c25_meaning_language.specs.Operands.{operands_of}
use Rattle.c25_expr.specs.Pieces.{pieces_of, operands_view}
use Rattle.c25_places.specs.Refused.{first_refused}
use Rattle.c25_places.proofs.Pieces.{operands_within}
use Rattle.c25_places.proofs.TokenFacts.{found_within}
use Rattle.c25_places.proofs.refused.refused_in.Goals as goal

pub operand_part-requires-clause-operand : goal.operand_part-requires-clause-operand
operand_part-requires-clause-operand c =
    let pieces : List Piece = pieces_of c.args.tokens.now in
    let operands : operands_view c.as_slice.result.now ≡ operands_of pieces = ap operands_view c.as_slice.ensures.value ∙ c.in_ok-operands.ensures in
    let found : first_refused c.args.kind c.args.operation 0 (operands_of pieces) ≡ Some (c.in-Some.index, pieces_of c.in-Some.operand.now) =
    ap (first_refused c.args.kind c.args.operation 0) (sym operands) ∙ sym (rw c.in-Some.is at c.in_ok-index.ensures) in
    found_within 18446744073709551615 c.args.kind c.args.operation 0 (operands_of pieces) _ (operands_within 18446744073709551615 pieces c.requires) found
