use Rattle.std.proofs.Common.{length, ◌≤◌, sym, ap, subst, ◌∙◌, arith}
use Rattle.c25_expr.specs.Pieces.{pieces_of}
use Rattle.c25_places.specs.Refused.{AreWithin}
use Rattle.c25_places.proofs.Pieces.{widened, within_line}
use Rattle.c25_places.proofs.value_parts.value_in.Goals as goal

pub operand_value-requires : goal.operand_value-requires
operand_value-requires c =
    let fits : length c.args.text.now ≤ 18446744073709551615 = omega arith in
    subst (AreWithin 0 18446744073709551615) (sym (ap pieces_of c.as_slice-tokens.ensures.value ∙ c.in_ok-list.ensures))
    (widened 0 (length c.args.text.now) 18446744073709551615 _ fits (within_line c.args.text.now _ c.requires))

pub name_value-requires : goal.name_value-requires
name_value-requires c =
    let fits : length c.args.text.now ≤ 18446744073709551615 = omega arith in
    subst (AreWithin 0 18446744073709551615) (sym (ap pieces_of c.as_slice-tokens.ensures.value ∙ c.in_ok-list.ensures))
    (widened 0 (length c.args.text.now) 18446744073709551615 _ fits (within_line c.args.text.now _ c.requires))
