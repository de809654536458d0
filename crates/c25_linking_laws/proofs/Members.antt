-- Items of lists, of filtered and of mapped ones, and what a search finds.
use Rattle.std.proofs.Common.{◌≡◌, ℕ, zero, suc, ◌<◌, Bool, true, false, cond, ◌&&◌, List, [], ◌∷◌, ◌++◌, length, map, filter, reverse, slice_index_or, Some, None, refl, sym, ap, ◌∙◌, subst, arith, ◌⊎◌, inl, inr}
use Rattle.std.specs.Prelude.{find}
use Rattle.std.specs.List.{AllByRecursion, Contains}
use Rattle.std.specs.List.Sorted.{IsPermutation}
use Rattle.std.proofs.lemmas.List.Elements.{All-contains, All-contains_itself, All-from_recursion, Contains-append_cases, Contains-append_right}
use Rattle.std.proofs.lemmas.List.Sorted.{All-permutation, IsPermutation-reverse, IsPermutation-sym}
use Rattle.c25_meaning_objects.specs.Module.{each_fits}

pub nothing_in : {X : Type 0} (x : X) → Contains [] x → ⊥
nothing_in x h = let l = h.1 in omega (arith, l)

pub first_in : {X : Type 0} (x : X) (xs : List X) → Contains (x ∷ xs) x
first_in x xs = (0, omega arith, refl)

pub behind_in : {X : Type 0} (x y : X) (xs : List X) → Contains xs y → Contains (x ∷ xs) y
behind_in x y xs h = Contains-append_right (x ∷ []) xs y h

pub in_front : {X : Type 0} (x y : X) (xs : List X) → Contains (x ∷ xs) y → (x ≡ y) ⊎ Contains xs y
in_front x y xs h =
    elim (Contains-append_cases (x ∷ []) xs y h) [
      | inl e ↦ inl (alone e)
      | inr e ↦ inr e
    ]
  where
    alone : Contains (x ∷ []) y → x ≡ y
    alone w = on w.0 w.1 w.2
      where
        on : (k : ℕ) → k < length (x ∷ []) → slice_index_or (x ∷ []) k y ≡ y → x ≡ y
        on zero l e = e
        on (suc k) l e = absurd (omega (arith, l))

-- what holds of each item holds of one
pub each_in : {X : Type 0} (P : X → Type 0) (xs : List X) (x : X) → AllByRecursion P xs → Contains xs x → P x
each_in P xs x h c = All-contains P xs x (All-from_recursion P xs h) c

-- ---- filters and maps

pub in_filter : {X : Type 0} (p : X → Bool) (xs : List X) (x : X) → Contains xs x → p x ≡ true → Contains (filter p xs) x
in_filter p [] x h e = absurd (nothing_in x h)
in_filter p (y ∷ ys) x h e =
    elim (in_front y x ys h) [
      | inl same ↦ here (p y) (ap p same ∙ e) same
      | inr later ↦ there (p y) (in_filter p ys x later e)
    ]
  where
    here : (b : Bool) → b ≡ true → y ≡ x → Contains (cond b (y ∷ filter p ys) (filter p ys)) x
    here true t same = subst (Contains (y ∷ filter p ys)) same (first_in y (filter p ys))
    here false t same = absurd cc

    there : (b : Bool) → Contains (filter p ys) x → Contains (cond b (y ∷ filter p ys) (filter p ys)) x
    there true c = behind_in y x (filter p ys) c
    there false c = c

pub from_filter : {X : Type 0} (p : X → Bool) (xs : List X) (x : X) → Contains (filter p xs) x → Contains xs x × (p x ≡ true)
from_filter p [] x h = absurd (nothing_in x h)
from_filter p (y ∷ ys) x h = by (p y) refl h (from_filter p ys x)
  where
    more : Contains ys x × (p x ≡ true) → Contains (y ∷ ys) x × (p x ≡ true)
    more g = (behind_in y x ys g.0, g.1)

    by : (b : Bool) → p y ≡ b → Contains (cond b (y ∷ filter p ys) (filter p ys)) x → (Contains (filter p ys) x → Contains ys x × (p x ≡ true)) → Contains (y ∷ ys) x × (p x ≡ true)
    by false e c later = more (later c)
    by true e c later =
        elim (in_front y x (filter p ys) c) [
          | inl same ↦ (subst (Contains (y ∷ ys)) same (first_in y ys), ap p (sym same) ∙ e)
          | inr after ↦ more (later after)
        ]

pub in_map : {X Y : Type 0} (f : X → Y) (xs : List X) (x : X) → Contains xs x → Contains (map f xs) (f x)
in_map f [] x h = absurd (nothing_in x h)
in_map f (y ∷ ys) x h =
    elim (in_front y x ys h) [
      | inl same ↦ subst (λ z. Contains (f y ∷ map f ys) (f z)) same (first_in (f y) (map f ys))
      | inr later ↦ behind_in (f y) (f x) (map f ys) (in_map f ys x later)
    ]

pub from_map : {X Y : Type 0} (f : X → Y) (xs : List X) (y : Y) → Contains (map f xs) y → (x : X) × Contains xs x × (f x ≡ y)
from_map f [] y h = absurd (nothing_in y h)
from_map f (x ∷ xs) y h =
    elim (in_front (f x) y (map f xs) h) [
      | inl same ↦ (x, first_in x xs, same)
      | inr later ↦ let g = from_map f xs y later in (g.0, behind_in x g.0 xs g.1, g.2)
    ]

-- ---- other orders

pub in_permuted : {X : Type 0} (xs ys : List X) (x : X) → IsPermutation xs ys → Contains xs x → Contains ys x
in_permuted xs ys x p c = All-contains (Contains ys) xs x (All-permutation (Contains ys) ys xs (IsPermutation-sym xs ys p) (All-contains_itself ys)) c

pub in_reversed : {X : Type 0} (xs : List X) (x : X) → Contains xs x → Contains (reverse xs) x
in_reversed xs x c = in_permuted xs (reverse xs) x (IsPermutation-reverse xs) c

pub from_reversed : {X : Type 0} (xs : List X) (x : X) → Contains (reverse xs) x → Contains xs x
from_reversed xs x c = in_permuted (reverse xs) xs x (IsPermutation-sym xs (reverse xs) (IsPermutation-reverse xs)) c

-- ---- searches

pub found_in : {X : Type 0} (p : X → Bool) (xs : List X) (x : X) → find p xs ≡ Some x → Contains xs x × (p x ≡ true)
found_in p [] x h = absurd cc
found_in p (y ∷ ys) x h = by (p y) refl h (found_in p ys x)
  where
    by : (b : Bool) → p y ≡ b → cond b (Some y) (find p ys) ≡ Some x → (find p ys ≡ Some x → Contains ys x × (p x ≡ true)) → Contains (y ∷ ys) x × (p x ≡ true)
    by true e h later = let same : y ≡ x = cc in (subst (Contains (y ∷ ys)) same (first_in y ys), ap p (sym same) ∙ e)
    by false e h later = let g = later h in (behind_in y x ys g.0, g.1)

pub none_found : {X : Type 0} (p : X → Bool) (xs : List X) (x : X) → find p xs ≡ None → Contains xs x → p x ≡ true → ⊥
none_found p [] x h c e = nothing_in x c
none_found p (y ∷ ys) x h c e = by (p y) refl h (λ g later. none_found p ys x g later e)
  where
    by : (b : Bool) → p y ≡ b → cond b (Some y) (find p ys) ≡ None → (find p ys ≡ None → Contains ys x → ⊥) → ⊥
    by true g h after = cc
    by false g h after =
        elim (in_front y x ys c) [
          | inl same ↦ let t : p y ≡ true = ap p same ∙ e in cc
          | inr later ↦ after h later
        ]

-- an item of a list whose items fit
pub fits_in : {X : Type 0} (fits : List X → X → Bool) (before xs : List X) (x : X) → each_fits fits before xs ≡ true → Contains xs x → (front : List X) × (fits front x ≡ true)
fits_in fits before [] x h c = absurd (nothing_in x c)
fits_in fits before (y ∷ ys) x h c =
    elim (in_front y x ys c) [
      | inl same ↦ (before, ap (fits before) (sym same) ∙ (both (fits before y) (each_fits fits (before ++ y ∷ []) ys) h).0)
      | inr later ↦ fits_in fits (before ++ y ∷ []) ys x (both (fits before y) (each_fits fits (before ++ y ∷ []) ys) h).1 later
    ]
  where
    both : (a b : Bool) → (a && b) ≡ true → (a ≡ true) × (b ≡ true)
    both true b h = (refl, h)
    both false b h = absurd cc
