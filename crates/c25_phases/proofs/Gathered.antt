-- Lists that are gathered item by item.
use Rattle.std.proofs.Common.{◌≡◌, ℕ, ◌+◌, ◌<◌, List, [], ◌∷◌, ◌++◌, drop, get_or, length, map, ap, sym, ◌∙◌}
use Rattle.std.specs.List.{flat_map}
use Rattle.std.proofs.lemmas.List.{append_assoc, drop_more}

-- what one item more gives comes after what the items before it gave
pub one_more : {X A : Type 0} (f : X → List A) (xs : List X) (i : ℕ) (d : X) (before after all : List A) → i < length xs → after ≡ before ++ f (get_or xs i d)
    → before ++ flat_map f (drop i xs) ≡ all → after ++ flat_map f (drop (i + 1) xs) ≡ all
one_more f xs i d before after all lt is told =
    ap (λ l. l ++ flat_map f (drop (i + 1) xs)) is
    ∙ append_assoc before (f (get_or xs i d)) (flat_map f (drop (i + 1) xs))
    ∙ ap (λ ys. before ++ flat_map f ys) (sym (drop_more xs i d lt))
    ∙ told

-- one item more, where each item gives one element
pub one_pushed : {X A : Type 0} (f : X → A) (xs : List X) (i : ℕ) (d : X) (before after all : List A) → i < length xs → after ≡ before ++ f (get_or xs i d) ∷ []
    → before ++ map f (drop i xs) ≡ all → after ++ map f (drop (i + 1) xs) ≡ all
one_pushed f xs i d before after all lt is told =
    ap (λ l. l ++ map f (drop (i + 1) xs)) is
    ∙ append_assoc before (f (get_or xs i d) ∷ []) (map f (drop (i + 1) xs))
    ∙ ap (λ ys. before ++ map f ys) (sym (drop_more xs i d lt))
    ∙ told
