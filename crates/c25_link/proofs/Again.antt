-- The first name that stands among those before it.
use Rattle.std.proofs.Common.{◌≡◌, ℕ, Bool, true, false, ◌||◌, cond, List, [], ◌∷◌, ◌++◌, Option, Some, None, refl, sym, ap, ◌∙◌}
use Rattle.std.specs.Str.{bytes_eq}
use Rattle.c25_meaning_linking.specs.GoodMap.{is_among}
use Rattle.c25_meaning_linking.specs.Linking.{first_again}

moved : (t a b : Bool) → ((t || a) || b) ≡ (a || (t || b))
moved true true b = refl
moved true false b = refl
moved false true b = refl
moved false false b = refl

not_none : (b : Bool) (y : List ℕ) (o : Option (List ℕ)) → cond b (Some y) o ≡ None → (b ≡ false) × (o ≡ None)
not_none true y o e = absurd cc
not_none false y o e = (refl, e)

-- a name that stands there already
pub again_some : (before xs ys : List (List ℕ)) (x : List ℕ) → first_again before xs ≡ None → (is_among x xs || is_among x before) ≡ true → first_again before (xs ++ x ∷ ys) ≡ Some x
again_some before [] ys x none there = ap (λ b. cond b (Some x) (first_again (x ∷ before) ys)) there
again_some before (y ∷ xs) ys x none there =
    let n = not_none (is_among y before) y (first_again (y ∷ before) xs) none in
    ap (λ b. cond b (Some y) (first_again (y ∷ before) (xs ++ x ∷ ys))) n.0
    ∙ again_some (y ∷ before) xs ys x n.1 (sym (moved (bytes_eq x y) (is_among x xs) (is_among x before)) ∙ there)

-- a name that does not
pub again_none : (before xs : List (List ℕ)) (x : List ℕ) → first_again before xs ≡ None → (is_among x xs || is_among x before) ≡ false → first_again before (xs ++ x ∷ []) ≡ None
again_none before [] x none there = ap (λ b. cond b (Some x) None) there
again_none before (y ∷ xs) x none there =
    let n = not_none (is_among y before) y (first_again (y ∷ before) xs) none in
    ap (λ b. cond b (Some y) (first_again (y ∷ before) (xs ++ x ∷ []))) n.0
    ∙ again_none (y ∷ before) xs x n.1 (sym (moved (bytes_eq x y) (is_among x xs) (is_among x before)) ∙ there)

pub or_false : (b : Bool) → (b || false) ≡ b
or_false true = refl
or_false false = refl
