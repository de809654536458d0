-- What a stable sort leaves are the items in order.
use Rattle.std.proofs.Common.{◌≡◌, ℕ, zero, suc, ◌+◌, ◌<◌, ◌≤◌, Bool, true, false, not, ◌&&◌, cond, List, [], ◌∷◌, length, filter, map, get_or, refl, sym, ap, ◌∙◌, arith}
use Rattle.std.specs.Cmp.{IsStrictWeakOrder}
use Rattle.std.specs.List.Sorted.{IsSortedBy, IsStableBy, ties}
use Rattle.std.proofs.lemmas.List.Sorted.{sorted_far}
use Rattle.c25_symbols.specs.Symbols.{inserted, in_order}

-- ---- lists in which no item has to be before an earlier one

-- none of these has to be before an item
abbrev pub Above : {A : Type 0} → (A → A → Bool) → A → List A → Type 0
Above lt x [] = Unit {0}
Above lt x (y ∷ ys) = (lt y x ≡ false) × Above lt x ys

abbrev pub Rises : {A : Type 0} → (A → A → Bool) → List A → Type 0
Rises lt [] = Unit {0}
Rises lt (x ∷ xs) = Above lt x xs × Rises lt xs

above_of : {A : Type 0} (lt : A → A → Bool) (x : A) (ys : List A) → ((k : ℕ) → k < length ys → lt (get_or ys k x) x ≡ false) → Above lt x ys
above_of lt x [] h = tt
above_of lt x (y ∷ ys) h = (h 0 (omega arith), above_of lt x ys (λ k p. h (suc k) (omega arith)))

rises_of : {A : Type 0} (lt : A → A → Bool) (xs : List A) → ((i j : ℕ) (d : A) → i ≤ j → j < length xs → lt (get_or xs j d) (get_or xs i d) ≡ false) → Rises lt xs
rises_of lt [] h = tt
rises_of lt (x ∷ xs) h = (above_of lt x xs (λ k p. h 0 (suc k) x (omega arith) (omega arith)), rises_of lt xs (λ i j d p q. h (suc i) (suc j) d (omega arith) (omega arith)))

-- none of these has to be before an item that is not before the one above which they are
above_through : {A : Type 0} (lt : A → A → Bool) (o : IsStrictWeakOrder lt) (x y : A) (ys : List A) → lt y x ≡ false → Above lt y ys → Above lt x ys
above_through lt o x y [] h above = tt
above_through lt o x y (z ∷ zs) h above = (o.chain z y x above.0 h, above_through lt o x y zs h above.1)

-- ---- there is one such list at most

not_itself : {A : Type 0} (lt : A → A → Bool) (o : IsStrictWeakOrder lt) (x : A) → lt x x ≡ false
not_itself lt o x = by_test (lt x x) refl where
  by_test : (b : Bool) → lt x x ≡ b → lt x x ≡ false
  by_test true e = o.one_way x x e
  by_test false e = e

ties_itself : {A : Type 0} (lt : A → A → Bool) (o : IsStrictWeakOrder lt) (x : A) → ties lt x x ≡ true
ties_itself lt o x = ap (λ b. not b && not b) (not_itself lt o x)

-- an item that has to be before one ties none of those that are not before that one
none_tied : {A : Type 0} (lt : A → A → Bool) (o : IsStrictWeakOrder lt) (x y : A) (ys : List A) → lt x y ≡ true → Above lt y ys → filter (ties lt x) ys ≡ []
none_tied lt o x y [] h above = refl
none_tied {A = A} lt o x y (z ∷ zs) h above =
    ap (λ (b : Bool). cond b (z ∷ filter (ties lt x) zs) (filter (ties lt x) zs)) (ap (λ (b : Bool). not b && not (lt z x)) (before (lt x z) refl)) ∙ none_tied lt o x y zs h above.1
  where
    before : (b : Bool) → lt x z ≡ b → lt x z ≡ true
    before true e = e
    before false e = let other : lt x y ≡ false = o.chain x z y e above.0 in absurd cc

kept : {A : Type 0} (test : A → Bool) (x : A) (xs : List A) → test x ≡ true → filter test (x ∷ xs) ≡ x ∷ filter test xs
kept test x xs h = ap (λ (b : Bool). cond b (x ∷ filter test xs) (filter test xs)) h

-- two lists with the same item in front, kept or not, have the same rest
behind : {A : Type 0} (x y : A) (xs ys : List A) (b : Bool) → x ≡ y → cond b (x ∷ xs) xs ≡ cond b (y ∷ ys) ys → xs ≡ ys
behind x y xs ys true e h = cc
behind x y xs ys false e h = h

pub one_order : {A : Type 0} (lt : A → A → Bool) (o : IsStrictWeakOrder lt) (xs ys : List A) → Rises lt xs → Rises lt ys → ((x : A) → filter (ties lt x) xs ≡ filter (ties lt x) ys) → xs ≡ ys
one_order lt o [] [] up up_2 same = refl
one_order lt o [] (y ∷ ys) up up_2 same = let e = same y ∙ kept (ties lt y) y ys (ties_itself lt o y) in absurd cc
one_order lt o (x ∷ xs) [] up up_2 same = let e = sym (same x) ∙ kept (ties lt x) x xs (ties_itself lt o x) in absurd cc
one_order {A = A} lt o (x ∷ xs) (y ∷ ys) up up_2 same = by_tests (λ rest. one_order lt o xs ys up.1 up_2.1 rest) (lt x y) (lt y x) refl refl where
  by_tests : (((z : A) → filter (ties lt z) xs ≡ filter (ties lt z) ys) → xs ≡ ys) → (t u : Bool) → lt x y ≡ t → lt y x ≡ u → x ∷ xs ≡ y ∷ ys
  by_tests after true u e f =
      let none = none_tied lt o x y (y ∷ ys) e (not_itself lt o y, up_2.0) in
      let some = sym (kept (ties lt x) x xs (ties_itself lt o x)) ∙ same x ∙ none in
      absurd cc
  by_tests after false true e f =
      let none = none_tied lt o y x (x ∷ xs) f (not_itself lt o x, up.0) in
      let some = sym (kept (ties lt y) y ys (ties_itself lt o y)) ∙ sym (same y) ∙ none in
      absurd cc
  by_tests after false false e f =
      let tied : ties lt x y ≡ true = λ i. not (e i) && not (f i) in
      let fronts : x ∷ filter (ties lt x) xs ≡ y ∷ filter (ties lt x) ys = sym (kept (ties lt x) x xs (ties_itself lt o x)) ∙ same x ∙ kept (ties lt x) y ys tied in
      let front : x ≡ y = cc in
      let rest : (z : A) → filter (ties lt z) xs ≡ filter (ties lt z) ys = λ z.
      behind x y (filter (ties lt z) xs) (filter (ties lt z) ys) (ties lt z x) front
      (same z ∙ ap (λ (b : Bool). cond b (y ∷ filter (ties lt z) ys) (filter (ties lt z) ys)) (ap (ties lt z) (sym front))) in
      let behind_is : xs ≡ ys = after rest in
      λ i. front i ∷ behind_is i

-- ---- items in order

above_inserted : {A : Type 0} (lt : A → A → Bool) (x z : A) (ys : List A) → lt x z ≡ false → Above lt z ys → Above lt z (inserted lt x ys)
above_inserted lt x z [] h above = (h, tt)
above_inserted lt x z (y ∷ ys) h above = by_test (above_inserted lt x z ys h above.1) (lt y x) where
  by_test : Above lt z (inserted lt x ys) → (b : Bool) → Above lt z (cond b (y ∷ inserted lt x ys) (x ∷ y ∷ ys))
  by_test after true = (above.0, after)
  by_test after false = (h, above)

rises_inserted : {A : Type 0} (lt : A → A → Bool) (o : IsStrictWeakOrder lt) (x : A) (ys : List A) → Rises lt ys → Rises lt (inserted lt x ys)
rises_inserted lt o x [] up = (tt, tt)
rises_inserted lt o x (y ∷ ys) up = by_test (rises_inserted lt o x ys up.1) (lt y x) refl where
  by_test : Rises lt (inserted lt x ys) → (b : Bool) → lt y x ≡ b → Rises lt (cond b (y ∷ inserted lt x ys) (x ∷ y ∷ ys))
  by_test after true e = (above_inserted lt x y ys (o.one_way y x e) up.0, after)
  by_test after false e = ((e, above_through lt o x y ys e up.0), up)

pub rises_in_order : {A : Type 0} (lt : A → A → Bool) (o : IsStrictWeakOrder lt) (xs : List A) → Rises lt (in_order lt xs)
rises_in_order lt o [] = tt
rises_in_order lt o (x ∷ xs) = rises_inserted lt o x (in_order lt xs) (rises_in_order lt o xs)

-- two items that tie a third one are not before each other
never_before : {A : Type 0} (lt : A → A → Bool) (o : IsStrictWeakOrder lt) (x y z : A) → ties lt z y ≡ true → ties lt z x ≡ true → lt y x ≡ false
never_before lt o x y z ty tx = o.chain y z x (second (lt z y) (lt y z) ty) (first (lt z x) (lt x z) tx) where
  first : (a b : Bool) → not a && not b ≡ true → a ≡ false
  first true b h = absurd cc
  first false b h = refl

  second : (a b : Bool) → not a && not b ≡ true → b ≡ false
  second true b h = absurd cc
  second false true h = absurd cc
  second false false h = refl

stable_inserted : {A : Type 0} (lt : A → A → Bool) (o : IsStrictWeakOrder lt) (z x : A) (ys : List A) → filter (ties lt z) (inserted lt x ys) ≡ filter (ties lt z) (x ∷ ys)
stable_inserted lt o z x [] = refl
stable_inserted {A = A} lt o z x (y ∷ ys) = by_test (stable_inserted lt o z x ys) (lt y x) refl where
  rest : List A
  rest = filter (ties lt z) ys

  exchanged : (a b : Bool) → (a ≡ true → b ≡ true → ⊥) → cond a (y ∷ cond b (x ∷ rest) rest) (cond b (x ∷ rest) rest) ≡ cond b (x ∷ cond a (y ∷ rest) rest) (cond a (y ∷ rest) rest)
  exchanged true true h = absurd (h refl refl)
  exchanged true false h = refl
  exchanged false b h = refl

  by_test : filter (ties lt z) (inserted lt x ys) ≡ filter (ties lt z) (x ∷ ys) → (b : Bool) → lt y x ≡ b
      → filter (ties lt z) (cond b (y ∷ inserted lt x ys) (x ∷ y ∷ ys)) ≡ filter (ties lt z) (x ∷ y ∷ ys)
  by_test after true e =
      ap (λ (l : List A). cond (ties lt z y) (y ∷ l) l) after
      ∙ exchanged (ties lt z y) (ties lt z x) (λ p q. let f : lt y x ≡ false = never_before lt o x y z p q in absurd cc)
  by_test after false e = refl

pub stable_in_order : {A : Type 0} (lt : A → A → Bool) (o : IsStrictWeakOrder lt) (z : A) (xs : List A) → filter (ties lt z) (in_order lt xs) ≡ filter (ties lt z) xs
stable_in_order lt o z [] = refl
stable_in_order {A = A} lt o z (x ∷ xs) =
    stable_inserted lt o z x (in_order lt xs) ∙ ap (λ (l : List A). cond (ties lt z x) (x ∷ l) l) (stable_in_order lt o z xs)

-- what a stable sort leaves
pub sorted_is : {A : Type 0} (lt : A → A → Bool) (o : IsStrictWeakOrder lt) (xs ys : List A) → IsSortedBy lt ys → IsStableBy lt xs ys → ys ≡ in_order lt xs
sorted_is lt o xs ys up stable =
    one_order lt o ys (in_order lt xs) (rises_of lt ys (sorted_far lt o ys up)) (rises_in_order lt o xs) (λ x. stable x ∙ sym (stable_in_order lt o x xs))

-- items in order are sorted
sorted_by : {A : Type 0} (lt : A → A → Bool) (xs : List A) → Rises lt xs → (k : ℕ) (d : A) → k + 1 < length xs → lt (get_or xs (k + 1) d) (get_or xs k d) ≡ false
sorted_by lt [] up k d low = absurd (omega arith)
sorted_by lt (x ∷ []) up k d low = absurd (omega arith)
sorted_by lt (x ∷ y ∷ ys) up zero d low = up.0.0
sorted_by lt (x ∷ y ∷ ys) up (suc k) d low = let same : suc k + 1 ≡ suc (k + 1) = omega arith in ap (λ n. lt (get_or (x ∷ y ∷ ys) n d) (get_or (y ∷ ys) k d)) same ∙ sorted_by lt (y ∷ ys) up.1 k d (omega arith)

pub in_order_sorted : {A : Type 0} (lt : A → A → Bool) (o : IsStrictWeakOrder lt) (xs : List A) → IsSortedBy lt (in_order lt xs)
in_order_sorted lt o xs = λ k d from low. sorted_by lt (in_order lt xs) (rises_in_order lt o xs) k d low

-- ---- seen otherwise

inserted_seen : {A B : Type 0} (view : A → B) (lt : B → B → Bool) (x : A) (ys : List A) → map view (inserted (λ a b. lt (view a) (view b)) x ys) ≡ inserted lt (view x) (map view ys)
inserted_seen view lt x [] = refl
inserted_seen {A = A} {B = B} view lt x (y ∷ ys) = by_test (inserted_seen view lt x ys) (lt (view y) (view x)) where
  by_test : map view (inserted (λ a c. lt (view a) (view c)) x ys) ≡ inserted lt (view x) (map view ys) → (b : Bool)
      → map view (cond b (y ∷ inserted (λ a c. lt (view a) (view c)) x ys) (x ∷ y ∷ ys)) ≡ cond b (view y ∷ inserted lt (view x) (map view ys)) (view x ∷ view y ∷ map view ys)
  by_test after true = ap (λ (l : List B). view y ∷ l) after
  by_test after false = refl

pub in_order_seen : {A B : Type 0} (view : A → B) (lt : B → B → Bool) (xs : List A) → map view (in_order (λ a b. lt (view a) (view b)) xs) ≡ in_order lt (map view xs)
in_order_seen view lt [] = refl
in_order_seen {B = B} view lt (x ∷ xs) =
    inserted_seen view lt x (in_order (λ a b. lt (view a) (view b)) xs) ∙ ap (λ (l : List B). inserted lt (view x) l) (in_order_seen view lt xs)
