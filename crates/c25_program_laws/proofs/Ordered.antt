-- Each list has its items in ascending order of a number.
use Rattle.std.proofs.Common.{◌≡◌, ℕ, zero, suc, ◌+◌, ◌<◌, ◌≤◌, List, [], ◌∷◌, length, get_or, refl, arith, inl, inr, ⊎_elim}
use Rattle.std.specs.List.Sorted.{IsNonDecreasingBy, IsPermutation}
use Rattle.std.proofs.lemmas.Bool.{cases_lt}
use Rattle.std.proofs.lemmas.List.Sorted.{IsPermutation-refl, IsPermutation-sym, IsPermutation-cons, IsPermutation-trans, IsPermutation-middle}

-- the numbers of items ascend, from one on
abbrev Rises : {A : Type 0} → (A → ℕ) → ℕ → List A → Type 0
Rises n low [] = Unit {0}
Rises n low (x ∷ xs) = (low ≤ n x) × Rises n (n x) xs

-- a list in ascending order, with the items of another
record Ordered {A : Type 0} (n : A → ℕ) (low : ℕ) (xs : List A) : Type 0 where
  list : List A
  same : IsPermutation xs list
  rises : Rises n low list

put_in : {A : Type 0} (n : A → ℕ) (low : ℕ) (x : A) (ys : List A) → low ≤ n x → Rises n low ys → Ordered n low (x ∷ ys)
put_in n low x [] from up = record { list = x ∷ []; same = IsPermutation-refl (x ∷ []); rises = (from, tt) }
put_in n low x (y ∷ ys) from up =
    ⊎_elim
    (λ lt. let rest = put_in n (n y) x ys (omega (arith, lt)) up.1 in
    record {
      list = y ∷ rest.list;
      same = IsPermutation-trans (x ∷ y ∷ ys) (y ∷ x ∷ ys) (y ∷ rest.list) (IsPermutation-sym (y ∷ x ∷ ys) (x ∷ y ∷ ys) (IsPermutation-middle (y ∷ []) x ys)) (IsPermutation-cons y (x ∷ ys) rest.list rest.same);
      rises = (up.0, rest.rises);
    })
    (λ ge. record { list = x ∷ y ∷ ys; same = IsPermutation-refl (x ∷ y ∷ ys); rises = (from, (ge, up.1)) })
    (cases_lt (n y) (n x))

in_order : {A : Type 0} (n : A → ℕ) (xs : List A) → Ordered n 0 xs
in_order n [] = record { list = []; same = IsPermutation-refl []; rises = tt }
in_order n (x ∷ xs) =
    let rest = in_order n xs in
    let all = put_in n 0 x rest.list (omega arith) rest.rises in
    record { list = all.list; same = IsPermutation-trans (x ∷ xs) (x ∷ rest.list) all.list (IsPermutation-cons x xs rest.list rest.same) all.same; rises = all.rises }

above : {A : Type 0} (n : A → ℕ) (low : ℕ) (xs : List A) → Rises n low xs → (j : ℕ) (d : A) → j < length xs → low ≤ n (get_or xs j d)
above n low [] up j d below = absurd (omega (arith, below))
above n low (x ∷ xs) up zero d below = up.0
above n low (x ∷ xs) up (suc j) d below = let rest = above n (n x) xs up.1 j d (omega (arith, below)) in let first = up.0 in omega (arith, rest, first)

rising : {A : Type 0} (n : A → ℕ) (low : ℕ) (xs : List A) → Rises n low xs → (i j : ℕ) (d : A) → i ≤ j → j < length xs → n (get_or xs i d) ≤ n (get_or xs j d)
rising n low [] up i j d le below = absurd (omega (arith, below))
rising n low (x ∷ xs) up zero zero d le below = omega arith
rising n low (x ∷ xs) up zero (suc j) d le below = above n (n x) xs up.1 j d (omega (arith, below))
rising n low (x ∷ xs) up (suc i) zero d le below = absurd (omega (arith, le))
rising n low (x ∷ xs) up (suc i) (suc j) d le below = rising n (n x) xs up.1 i j d (omega (arith, le)) (omega (arith, below))

-- the items of a list in ascending order
pub record Sorted {A : Type 0} (n : A → ℕ) (xs : List A) : Type 0 where
  pub list : List A
  pub same : IsPermutation xs list
  pub order : IsNonDecreasingBy n list

pub sorted : {A : Type 0} (n : A → ℕ) (xs : List A) → Sorted n xs
sorted n xs = let all = in_order n xs in record { list = all.list; same = all.same; order = rising n 0 all.list all.rises }
