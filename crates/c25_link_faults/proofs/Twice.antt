-- Names that stand more than once, one definition more at a time.
use Rattle.std.proofs.Common.{◌≡◌, ℕ, Bool, true, false, not, ◌||◌, cond, is_none, List, [], ◌∷◌, ◌++◌, Some, refl, ap, ◌∙◌}
use Rattle.std.specs.Str.{bytes_eq}
use Rattle.c25_meaning_linking.specs.GoodMap.{is_among}
use Rattle.c25_meaning_linking.specs.Linking.{is_missing}
use Rattle.c25_meaning_linking.specs.Words.{Definition, definition_of}
use Rattle.c25_place.proofs.Sized.{or_false}
use Rattle.c25_link_faults.specs.Faults.{names_again}
use Rattle.c25_link_faults.specs.View.{names_of}

rotated : (a b c : Bool) → (a || (b || c)) ≡ ((b || a) || c)
rotated true true c = refl
rotated true false c = refl
rotated false true c = refl
rotated false false c = refl

one : (b : Bool) (x : List ℕ) → cond b (x ∷ []) [] ≡ [] ++ cond b (x ∷ []) []
one b x = refl

-- a name more
pub again_more : (before names : List (List ℕ)) (x : List ℕ) → names_again before (names ++ x ∷ []) ≡ names_again before names ++ cond (is_among x names || is_among x before) (x ∷ []) []
again_more before [] x = one (is_among x before) x
again_more before (y ∷ ys) x = by_test (again_more (y ∷ before) ys x) (is_among y before) where
  more : names_again (y ∷ before) (ys ++ x ∷ []) ≡ names_again (y ∷ before) ys ++ cond (is_among x ys || is_among x (y ∷ before)) (x ∷ []) []
      → names_again (y ∷ before) (ys ++ x ∷ []) ≡ names_again (y ∷ before) ys ++ cond (is_among x (y ∷ ys) || is_among x before) (x ∷ []) []
  more e = e ∙ ap (λ b. names_again (y ∷ before) ys ++ cond b (x ∷ []) []) (rotated (is_among x ys) (bytes_eq x y) (is_among x before))

  by_test : names_again (y ∷ before) (ys ++ x ∷ []) ≡ names_again (y ∷ before) ys ++ cond (is_among x ys || is_among x (y ∷ before)) (x ∷ []) []
      → (t : Bool) → cond t (y ∷ names_again (y ∷ before) (ys ++ x ∷ [])) (names_again (y ∷ before) (ys ++ x ∷ [])) ≡ cond t (y ∷ names_again (y ∷ before) ys) (names_again (y ∷ before) ys) ++ cond (is_among x (y ∷ ys) || is_among x before) (x ∷ []) []
  by_test e true = ap (λ zs. y ∷ zs) (more e)
  by_test e false = more e

-- a name is among those of definitions just where one is found
pub among_defined : (name : List ℕ) (ds : List Definition) → is_missing ds name ≡ not (is_among name (names_of ds))
among_defined name [] = refl
among_defined name (d ∷ ds) = by_test (among_defined name ds) (bytes_eq name d.symbol.name) where
  by_test : is_missing ds name ≡ not (is_among name (names_of ds)) → (t : Bool) → is_none (cond t (Some d) (definition_of name ds)) ≡ not (t || is_among name (names_of ds))
  by_test after true = refl
  by_test after false = after

-- a name more that was seen before or was not
pub again_next : (names : List (List ℕ)) (x : List ℕ) → names_again [] (names ++ x ∷ []) ≡ names_again [] names ++ cond (is_among x names) (x ∷ []) []
again_next names x = again_more [] names x ∙ ap (λ b. names_again [] names ++ cond b (x ∷ []) []) (or_false (is_among x names))
