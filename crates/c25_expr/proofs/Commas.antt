-- Tokens that are cut at commas are the operands of the line.
use Rattle.std.proofs.Common.{◌≡◌, ◌==◌, Bool, true, false, cond, List, [], ◌∷◌, length, map, refl, ◌∙◌, ap}
use Rattle.std.specs.List.{slice_split, onto_first}
use Rattle.c25_meaning_language.specs.Line.{Piece}
use Rattle.c25_meaning_language.specs.Operands.{is_comma, operands_of}
use Rattle.c25_text.specs.View.{piece_of}
use Rattle.c25_text.specs.declared.tokens.Token.{Token}
use Rattle.c25_expr.specs.Pieces.{pieces_of}

onto-pieces : (t : Token) (tss : List (List Token)) → map pieces_of (onto_first t tss) ≡ onto_first (piece_of t) (map pieces_of tss)
onto-pieces t [] = refl
onto-pieces t (ts ∷ tss) = refl

cut_by : (b : Bool) (t : Token) (tss : List (List Token)) (pss : List (List Piece)) → map pieces_of tss ≡ pss
    → map pieces_of (cond b ([] ∷ tss) (onto_first t tss)) ≡ cond b ([] ∷ pss) (onto_first (piece_of t) pss)
cut_by true t tss pss e = ap (λ x. [] ∷ x) e
cut_by false t tss pss e = onto-pieces t tss ∙ ap (onto_first (piece_of t)) e

pub split-pieces : (ts : List Token) → map pieces_of (slice_split (λ t. is_comma t.kind) ts) ≡ slice_split (λ p. is_comma p.kind) (pieces_of ts)
split-pieces [] = refl
split-pieces (t ∷ ts) = cut_by (is_comma t.kind) t _ _ (split-pieces ts)

pub operands-pieces : (ts : List Token) → (length ts == 0) ≡ false → map pieces_of (slice_split (λ t. is_comma t.kind) ts) ≡ operands_of (pieces_of ts)
operands-pieces [] some = absurd (cc)
operands-pieces (t ∷ ts) some = split-pieces (t ∷ ts)
