-- the sign among the tokens that are left, after the last two, is that among all
use Rattle.std.proofs.Common.{◌≡◌, None, drop}
use Rattle.std.specs.Option.{option_map}
use Rattle.c25_expr.specs.Pieces.{pieces_of}
use Rattle.c25_text.specs.View.{piece_of}
use Rattle.c25_hints.specs.Operands.{comment_sign}
use Rattle.c25_hints.proofs.operands.comment_sign.Given as goal

abbrev pub invariant-loop-token : goal.invariant-loop-token
invariant-loop-token l =
    comment_sign (option_map piece_of l.before) (option_map piece_of l.last) (pieces_of (drop l.token-index l.operand)) ≡ comment_sign None None (pieces_of l.operand)
