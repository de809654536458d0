use Rattle.std.proofs.Common.{◌≡◌, suc, ◌-◌, ◌<◌, ◌≤◌, List, [], ◌∷◌, length, get_or, Some, None, refl, ap, ◌∙◌, arith}
use Rattle.c25_meaning_expansion.specs.Acts as acts
use Rattle.c25_text.specs.declared.tokens.Token.{Token}
use Rattle.c25_expr.specs.Pieces.{pieces_of, operands_view}
use Rattle.c25_line_faults.proofs.expansion_lines.last_of_two.Goals as goal
use denote.Ref.{Bor}

few : (os : List (Bor (List Token))) → length os < 2 → None ≡ acts.last_of_two (operands_view os)
few [] h = refl
few (o ∷ []) h = refl
few (o ∷ p ∷ os) h = absurd (omega arith)

last : (d : Bor (List Token)) (os : List (Bor (List Token))) → 2 ≤ length os
    → Some (pieces_of (get_or os (length os - 1) d).now) ≡ acts.last_of_two (operands_view os)
last d [] h = absurd (omega arith)
last d (o ∷ []) h = absurd (omega arith)
last d (o ∷ p ∷ []) h = refl
last d (o ∷ p ∷ q ∷ os) h =
    let place : suc (suc (suc (length os))) - 1 ≡ suc (suc (suc (length os)) - 1) = omega arith in
    ap (λ i. Some (pieces_of (get_or (o ∷ p ∷ q ∷ os) i d).now)) place
    ∙ last d (p ∷ q ∷ os) (omega arith)

pub returns-in_default : goal.returns-in_default
returns-in_default c = few c.args.operands.now c.in_default.len_below

pub returns-in-len2-up : goal.returns-in-len2-up
returns-in-len2-up c = last _ c.args.operands.now c.in-len2-up.len_at_least
