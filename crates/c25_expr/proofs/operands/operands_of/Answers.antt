use Rattle.std.proofs.Common.{◌≡◌, ◌==◌, false, List, [], ◌∷◌, map, length, Result, Ok, IfOk, Vec, vec_items, refl, sym, ◌∙◌, ap, rules, tests}
use Rattle.std.specs.declared.alloc.Global.{Global}
use Rattle.std.specs.List.{slice_split}
use Rattle.std.proofs.lemmas.Iterator.Consumers.{map_from_collect}
use Rattle.std.proofs.lemmas.Iterator.Splits.{YieldsList-from_slice_split}
use Rattle.c25_meaning_language.specs.Operands.{is_comma, operands_of}
use Rattle.c25_text.specs.declared.tokens.Token.{Token}
use Rattle.c25_expr.specs.Pieces.{pieces_of}
use Rattle.c25_expr.proofs.Commas.{operands-pieces}
use Rattle.c25_expr.proofs.operands.operands_of.Goals as goal
use denote.Ref.{Bor}

now_pieces : (xs : List (Bor (List Token))) → map (λ x. pieces_of x.now) xs ≡ map pieces_of (map (λ (x : Bor (List Token)). x.now) xs)
now_pieces [] = refl
now_pieces (x ∷ xs) = ap (λ ys. pieces_of x.now ∷ ys) (now_pieces xs)

viewed : {E : Type 0} (ts : List Token) (r : Result (Vec (Bor (List Token)) Global) E) (v : Vec (Bor (List Token)) Global) → r ≡ Ok v → (length ts == 0) ≡ false
    → IfOk r (λ w. map (λ (x : Bor (List Token)). x.now) (vec_items w) ≡ slice_split (λ t. is_comma t.kind) ts) → map (λ x. pieces_of x.now) v.items ≡ operands_of (pieces_of ts)
viewed ts r v was some h =
    let split : map (λ (x : Bor (List Token)). x.now) (vec_items v) ≡ slice_split (λ t. is_comma t.kind) ts = rw was at h in
    now_pieces v.items ∙ ap (map pieces_of) split ∙ operands-pieces ts some

pub returns : goal.returns
returns c = viewed c.args.tokens.now c.collect.result _ c.in_ok-collect.was (sym c.if-is_empty.ensures)
    (map_from_collect _ c.collect.ensures.ran (YieldsList-from_slice_split _ _ c.args.tokens.now c.split.ensures.rest c.split.ensures.done c.split.ensures.closure (λ x r q k. search (rules, tests))))
