-- Lists that have the same items of each key, in one order, have the same items.
use Rattle.std.proofs.Common.{◌≡◌, ℕ, Bool, true, false, cond, eqb, List, [], ◌∷◌, ◌++◌, map, filter, refl, sym, ap, ◌∙◌, subst}
use Rattle.std.specs.List.Sorted.{IsPermutation}
use Rattle.std.proofs.lemmas.Bool.{eq-eqb, eqb-true}
use Rattle.std.proofs.lemmas.List.Elements.{filter-append}
use Rattle.std.proofs.lemmas.List.Sorted.{IsPermutation-cons, IsPermutation-middle, IsPermutation-refl, IsPermutation-sym, IsPermutation-trans}

-- ---- filters

pub filter_mapped : {X Y : Type 0} (p : Y → Bool) (f : X → Y) (xs : List X) → filter p (map f xs) ≡ map f (filter (λ x. p (f x)) xs)
filter_mapped p f [] = refl
filter_mapped p f (x ∷ xs) = by (p (f x)) (filter_mapped p f xs)
  where
    by : (b : Bool) → filter p (map f xs) ≡ map f (filter (λ x. p (f x)) xs) → cond b (f x ∷ filter p (map f xs)) (filter p (map f xs)) ≡ map f (cond b (x ∷ filter (λ x. p (f x)) xs) (filter (λ x. p (f x)) xs))
    by true e = ap (λ ys. f x ∷ ys) e
    by false e = e

pub filters_commute : {X : Type 0} (p q : X → Bool) (xs : List X) → filter p (filter q xs) ≡ filter q (filter p xs)
filters_commute p q [] = refl
filters_commute p q (x ∷ xs) = by (p x) (q x) refl refl (filters_commute p q xs)
  where
    by : (a b : Bool) → p x ≡ a → q x ≡ b → filter p (filter q xs) ≡ filter q (filter p xs) → filter p (cond b (x ∷ filter q xs) (filter q xs)) ≡ filter q (cond a (x ∷ filter p xs) (filter p xs))
    by true true g h e = ap (λ b. cond b (x ∷ filter p (filter q xs)) (filter p (filter q xs))) g ∙ ap (λ ys. x ∷ ys) e ∙ sym (ap (λ b. cond b (x ∷ filter q (filter p xs)) (filter q (filter p xs))) h)
    by true false g h e = e ∙ sym (ap (λ b. cond b (x ∷ filter q (filter p xs)) (filter q (filter p xs))) h)
    by false true g h e = ap (λ b. cond b (x ∷ filter p (filter q xs)) (filter p (filter q xs))) g ∙ e
    by false false g h e = e

pub map_same : {X Y : Type 0} (f g : X → Y) (xs : List X) → ((x : X) → f x ≡ g x) → map f xs ≡ map g xs
map_same f g [] h = refl
map_same f g (x ∷ xs) h = λ i. h x i ∷ map_same f g xs h i

-- ---- lists by keys

module _ {X : Type 0} (key : X → ℕ) where
  -- the same items of each key
  abbrev pub AreAlike : List X → List X → Type 0
  AreAlike xs ys = (k : ℕ) → filter (λ x. eqb (key x) k) xs ≡ filter (λ x. eqb (key x) k) ys

  none_alike : (ys : List X) → AreAlike [] ys → ◌≡◌ {A = List X} [] ys
  none_alike [] h = refl
  none_alike (y ∷ ys) h = absurd (by (eqb (key y) (key y)) (eq-eqb (key y) (key y) refl) (h (key y)))
    where
      by : (b : Bool) → b ≡ true → ◌≡◌ {A = List X} [] (cond b (y ∷ filter (λ x. eqb (key x) (key y)) ys) (filter (λ x. eqb (key x) (key y)) ys)) → ⊥
      by true e h = cc
      by false e h = cc

  -- where the first item of a key stands
  record Split (k : ℕ) (x : X) (ys : List X) : Type 0 where
    before : List X
    after : List X
    is : ys ≡ before ++ x ∷ after
    none : filter (λ y. eqb (key y) k) before ≡ []

  split : (k : ℕ) (x : X) (ys rest : List X) → x ∷ rest ≡ filter (λ y. eqb (key y) k) ys → Split k x ys
  split k x [] rest h = absurd cc
  split k x (y ∷ ys) rest h = by (eqb (key y) k) refl h (split k x ys rest)
    where
      by : (b : Bool) → eqb (key y) k ≡ b → x ∷ rest ≡ cond b (y ∷ filter (λ y. eqb (key y) k) ys) (filter (λ y. eqb (key y) k) ys) → (x ∷ rest ≡ filter (λ y. eqb (key y) k) ys → Split k x ys) → Split k x (y ∷ ys)
      by true e h later = let same : y ≡ x = cc in record { before = []; after = ys; is = ap (λ z. z ∷ ys) same; none = refl }
      by false e h later =
          let s = later h in
          record {
            before = y ∷ s.before;
            after = s.after;
            is = ap (λ zs. y ∷ zs) s.is;
            none = ap (λ b. cond b (y ∷ filter (λ y. eqb (key y) k) s.before) (filter (λ y. eqb (key y) k) s.before)) e ∙ s.none;
          }

  tails : (x : X) (xs ys : List X) → x ∷ xs ≡ x ∷ ys → xs ≡ ys
  tails x xs ys e = cc

  alike_without : (x : X) (xs before after : List X) → filter (λ y. eqb (key y) (key x)) before ≡ [] → AreAlike (x ∷ xs) (before ++ x ∷ after) → AreAlike xs (before ++ after)
  alike_without x xs before after none h k =
      by (eqb (key x) k) refl (h k ∙ filter-append (λ y. eqb (key y) k) before (x ∷ after)) ∙ sym (filter-append (λ y. eqb (key y) k) before after)
    where
      by : (b : Bool) → eqb (key x) k ≡ b → cond b (x ∷ filter (λ y. eqb (key y) k) xs) (filter (λ y. eqb (key y) k) xs) ≡ filter (λ y. eqb (key y) k) before ++ cond b (x ∷ filter (λ y. eqb (key y) k) after) (filter (λ y. eqb (key y) k) after)
          → filter (λ y. eqb (key y) k) xs ≡ filter (λ y. eqb (key y) k) before ++ filter (λ y. eqb (key y) k) after
      by false e h = h
      by true e h =
          let bare : filter (λ y. eqb (key y) k) before ≡ [] = subst (λ (n : ℕ). filter (λ y. eqb (key y) n) before ≡ []) (eqb-true (key x) k e) none in
          tails x (filter (λ y. eqb (key y) k) xs) (filter (λ y. eqb (key y) k) after) (h ∙ ap (λ zs. zs ++ x ∷ filter (λ y. eqb (key y) k) after) bare) ∙ ap (λ zs. zs ++ filter (λ y. eqb (key y) k) after) (sym bare)

  pub alike_permuted : (xs ys : List X) → AreAlike xs ys → IsPermutation xs ys
  alike_permuted [] ys h = subst (IsPermutation []) (none_alike ys h) (IsPermutation-refl [])
  alike_permuted (x ∷ xs) ys h =
      let front : x ∷ filter (λ y. eqb (key y) (key x)) xs ≡ filter (λ y. eqb (key y) (key x)) (x ∷ xs) =
      sym (ap (λ b. cond b (x ∷ filter (λ y. eqb (key y) (key x)) xs) (filter (λ y. eqb (key y) (key x)) xs)) (eq-eqb (key x) (key x) refl)) in
      let s = split (key x) x ys (filter (λ y. eqb (key y) (key x)) xs) (front ∙ h (key x)) in
      let rest = alike_permuted xs (s.before ++ s.after) (alike_without x xs s.before s.after s.none (λ k. h k ∙ ap (filter (λ y. eqb (key y) k)) s.is)) in
      IsPermutation-trans (x ∷ xs) (x ∷ (s.before ++ s.after)) ys (IsPermutation-cons x xs (s.before ++ s.after) rest)
      (subst (IsPermutation (x ∷ (s.before ++ s.after))) (sym s.is) (IsPermutation-sym (s.before ++ x ∷ s.after) (x ∷ (s.before ++ s.after)) (IsPermutation-middle s.before x s.after)))

  -- the same items that pass a test
  pub alike_filtered : (p : X → Bool) (xs ys : List X) → AreAlike xs ys → AreAlike (filter p xs) (filter p ys)
  alike_filtered p xs ys h k = filters_commute (λ x. eqb (key x) k) p xs ∙ ap (filter p) (h k) ∙ filters_commute p (λ x. eqb (key x) k) ys
