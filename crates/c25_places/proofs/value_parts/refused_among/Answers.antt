use Rattle.std.proofs.Common.{◌≡◌, List, Some, sym, ap, ◌∙◌}
use Rattle.c25_meaning_language.specs.Line.{Piece}
use Rattle.c25_meaning_language.specs.Operands.{operands_of}
use Rattle.c25_expr.specs.Pieces.{pieces_of, operands_view}
use Rattle.c25_places.specs.FoundView.{found_of}
use Rattle.c25_places.specs.Values.{first_found}
use Rattle.c25_places.proofs.FoundOperands.{value_within}
use Rattle.c25_places.proofs.Pieces.{operands_within}
use Rattle.c25_places.proofs.value_parts.refused_among.Goals as goal

pub found_value-requires-clause-operand : goal.found_value-requires-clause-operand
found_value-requires-clause-operand c =
    let pieces : List Piece = pieces_of c.args.tokens.now in
    let operands : operands_view c.as_slice.result.now ≡ operands_of pieces = ap operands_view c.as_slice.ensures.value ∙ c.in_ok-operands.ensures in
    let found : first_found c.args.kind c.args.symbols.now c.args.line 0 0 (operands_of pieces) ≡ Some (found_of c.in-Some.found) =
    ap (first_found c.args.kind c.args.symbols.now c.args.line 0 0) (sym operands) ∙ sym (rw c.in-Some.is at c.in_ok-found.ensures) in
    value_within 18446744073709551615 c.args.kind c.args.symbols.now c.args.line 0 0 (operands_of pieces) _ (operands_within 18446744073709551615 pieces c.requires) found
