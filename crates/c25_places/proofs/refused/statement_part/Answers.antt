use Rattle.std.proofs.Common.{length, ◌≤◌, sym, ap, subst, ◌∙◌, arith}
use Rattle.c25_expr.specs.Pieces.{pieces_of}
use Rattle.c25_places.specs.Refused.{AreWithin}
use Rattle.c25_places.proofs.Pieces.{widened, within_line}
use Rattle.c25_places.proofs.refused.statement_part.Goals as goal

pub tokens_part-requires : goal.tokens_part-requires
tokens_part-requires c =
    let fits : length c.args.text.now ≤ 18446744073709551615 = omega arith in
    subst (AreWithin 0 18446744073709551615) (sym (ap pieces_of c.as_slice.ensures.value ∙ c.in_ok-tokens.ensures))
    (widened 0 (length c.args.text.now) 18446744073709551615 _ fits (within_line c.args.text.now _ c.requires))
