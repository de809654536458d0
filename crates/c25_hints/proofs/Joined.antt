-- Names joined to one text, and the first remark of several.
use Rattle.std.proofs.Common.{◌≡◌, ℕ, ◌-◌, false, List, [], ◌∷◌, ◌++◌, length, Option, Some, None, refl, ap, sym, ◌∙◌}
use Rattle.std.specs.Prelude.{map, slice_get}
use Rattle.std.specs.List.{join_by}
use Rattle.std.specs.Option.{option_map, option_and_then, option_or}
use Rattle.std.proofs.lemmas.List.{length-map}
use Rattle.std.proofs.lemmas.List.Folds.{flat_map-map}
use Rattle.std.proofs.lemmas.Option.{slice_get-map}
use Rattle.c25_meaning_language.specs.Line.{Piece}
use Rattle.c25_text.specs.View.{piece_of}
use Rattle.c25_text.specs.declared.tokens.Token.{Token}
use Rattle.c25_expr.specs.Pieces.{pieces_of}
use Rattle.c25_hints.specs.Operands.{of_expression, of_front, of_last, of_second, second_operand}
use Rattle.c25_hints.specs.Remark.{Remark, remark_of}
use Rattle.c25_hints.specs.declared.hint.Hint.{Hint}

-- names that are taken from items are joined as the items are
pub joined_names : {X : Type 0} (f : X → List ℕ) (sep : List ℕ) (xs : List X) → join_by (λ s. s) sep (map f xs) ≡ join_by f sep xs
joined_names f sep [] = refl
joined_names f sep (x ∷ xs) = ap (λ (t : List ℕ). f x ++ t) (flat_map-map (λ y. sep ++ y) f xs)

mapped : (a b c : Option Hint) → option_map remark_of (option_or (option_or a b) c) ≡ option_or (option_or (option_map remark_of a) (option_map remark_of b)) (option_map remark_of c)
mapped None None c = refl
mapped None (Some y) c = refl
mapped (Some x) b c = refl

-- the first of three remarks
pub first_remark : (a b c : Option Hint) (x y z : Option Remark) → option_map remark_of a ≡ x → option_map remark_of b ≡ y → option_map remark_of c ≡ z
    → option_map remark_of (option_or (option_or a b) c) ≡ option_or (option_or x y) z
first_remark a b c x y z e f g =
    mapped a b c
    ∙ ap (λ (o : Option Remark). option_or (option_or o (option_map remark_of b)) (option_map remark_of c)) e
    ∙ ap (λ (o : Option Remark). option_or (option_or x o) (option_map remark_of c)) f
    ∙ ap (λ (o : Option Remark). option_or (option_or x y) o) g

with_last : (pieces : List Piece) (last : Piece) → Some last ≡ slice_get pieces (length pieces - 1)
    → option_or (option_or (of_front pieces) (option_map (of_second pieces) (second_operand false pieces))) (of_last last) ≡ of_expression pieces
with_last [] last e = absurd (cc)
with_last (p ∷ ps) last e =
    ap (λ (o : Option Piece). option_or (option_or (of_front (p ∷ ps)) (option_map (of_second (p ∷ ps)) (second_operand false (p ∷ ps)))) (option_and_then of_last o)) e

-- the remark on an expression whose last token this is
pub expressed : (ts : List Token) (last : Token) → Some last ≡ slice_get ts (length ts - 1)
    → option_or (option_or (of_front (pieces_of ts)) (option_map (of_second (pieces_of ts)) (second_operand false (pieces_of ts)))) (of_last (piece_of last)) ≡ of_expression (pieces_of ts)
expressed ts last e =
    let same : length ts - 1 ≡ length (pieces_of ts) - 1 = ap (λ (n : ℕ). n - 1) (sym (length-map ts piece_of)) in
    let there : Some (piece_of last) ≡ slice_get (pieces_of ts) (length (pieces_of ts) - 1) = ap (option_map piece_of) e ∙ sym (slice_get-map piece_of ts (length ts - 1)) ∙ ap (slice_get (pieces_of ts)) same in
    with_last (pieces_of ts) (piece_of last) there
