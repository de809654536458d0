-- Lists of addresses, tested.
use Rattle.std.proofs.Common.{◌≡◌, ℕ, zero, suc, ◌+◌, ◌<◌, ◌≤◌, Bool, true, false, ◌&&◌, ◌||◌, cond, List, [], ◌∷◌, ◌++◌, length, filter, refl, ap, ◌∙◌, arith, ⊎_elim}
use Rattle.std.specs.List.{list_any, range_with_len}
use Rattle.std.proofs.lemmas.Bool.{cases_lt}
use Rattle.std.proofs.lemmas.List.Elements.{filter-append}

pub both : (a b : Bool) → (a && b) ≡ true → (a ≡ true) × (b ≡ true)
both true b h = (refl, h)
both false b h = absurd cc

pub or_true : (b : Bool) → (b || true) ≡ true
or_true true = refl
or_true false = refl

pub and_true : (b : Bool) → (b && true) ≡ b
and_true true = refl
and_true false = refl

-- an element that passes
pub passes : (test : ℕ → Bool) (xs : List ℕ) → list_any test xs ≡ true → (x : ℕ) × (test x ≡ true)
passes test [] h = absurd cc
passes test (x ∷ xs) h = by_test (passes test xs) (test x) refl h where
  by_test : (list_any test xs ≡ true → (y : ℕ) × (test y ≡ true)) → (t : Bool) → test x ≡ t → (t || list_any test xs) ≡ true → (y : ℕ) × (test y ≡ true)
  by_test later true e g = (x, e)
  by_test later false e g = later g

-- what a filter keeps, tested
pub any_kept : (p q : ℕ → Bool) (xs : List ℕ) → list_any q (filter p xs) ≡ list_any (λ x. p x && q x) xs
any_kept p q [] = refl
any_kept p q (x ∷ xs) = by_test (any_kept p q xs) (p x) where
  by_test : list_any q (filter p xs) ≡ list_any (λ y. p y && q y) xs → (t : Bool) → list_any q (cond t (x ∷ filter p xs) (filter p xs)) ≡ ((t && q x) || list_any (λ y. p y && q y) xs)
  by_test later true = ap (λ b. q x || b) later
  by_test later false = later

pub kept_twice : (p q : ℕ → Bool) (xs : List ℕ) → filter q (filter p xs) ≡ filter (λ x. p x && q x) xs
kept_twice p q [] = refl
kept_twice p q (x ∷ xs) = by_test (kept_twice p q xs) (p x) where
  by_test : filter q (filter p xs) ≡ filter (λ y. p y && q y) xs → (t : Bool)
      → filter q (cond t (x ∷ filter p xs) (filter p xs)) ≡ cond (t && q x) (x ∷ filter (λ y. p y && q y) xs) (filter (λ y. p y && q y) xs)
  by_test later true = ap (λ ys. cond (q x) (x ∷ ys) ys) later
  by_test later false = later

pub any_alike : (p q : ℕ → Bool) → ((x : ℕ) → p x ≡ q x) → (xs : List ℕ) → list_any p xs ≡ list_any q xs
any_alike p q same [] = refl
any_alike p q same (x ∷ xs) = ap (λ t. t || list_any p xs) (same x) ∙ ap (λ t. q x || t) (any_alike p q same xs)

pub all_kept : (xs : List ℕ) → filter (λ x. true) xs ≡ xs
all_kept [] = refl
all_kept (x ∷ xs) = ap (λ ys. x ∷ ys) (all_kept xs)

pub some_kept : (p : ℕ → Bool) (xs : List ℕ) → 0 < length (filter p xs) → list_any p xs ≡ true
some_kept p [] h = absurd (omega (arith, h))
some_kept p (x ∷ xs) h = by_test (some_kept p xs) (p x) h where
  by_test : (0 < length (filter p xs) → list_any p xs ≡ true) → (t : Bool) → 0 < length (cond t (x ∷ filter p xs) (filter p xs)) → (t || list_any p xs) ≡ true
  by_test later true g = refl
  by_test later false g = later g

pub none_kept : (p : ℕ → Bool) (xs : List ℕ) → length (filter p xs) ≡ 0 → list_any p xs ≡ false
none_kept p [] h = refl
none_kept p (x ∷ xs) h = by_test (none_kept p xs) (p x) h where
  by_test : (length (filter p xs) ≡ 0 → list_any p xs ≡ false) → (t : Bool) → length (cond t (x ∷ filter p xs) (filter p xs)) ≡ 0 → (t || list_any p xs) ≡ false
  by_test later true g = absurd (omega (arith, g))
  by_test later false g = later g

-- one of the numbers of a row passes
pub in_range : (test : ℕ → Bool) (n a k : ℕ) → a ≤ k → k < a + n → test k ≡ true → list_any test (range_with_len a n) ≡ true
in_range test zero a k from upto h = absurd (omega (arith, from, upto))
in_range test (suc n) a k from upto h =
    ⊎_elim (λ lt. ap (λ b. test a || b) (in_range test n (a + 1) k (omega (arith, lt)) (omega (arith, upto)) h) ∙ or_true (test a))
    (λ le. let same : a ≡ k = omega (arith, le, from) in ap (λ b. b || list_any test (range_with_len (a + 1) n)) (ap test same ∙ h))
    (cases_lt a k)

range_suc : (a n : ℕ) → range_with_len a (suc n) ≡ range_with_len a n ++ (a + n) ∷ []
range_suc a zero = let e : a ≡ a + 0 = omega arith in ap (λ k. k ∷ []) e
range_suc a (suc n) =
    let e : a + 1 + n ≡ a + suc n = omega arith in
    ap (λ ks. a ∷ ks) (range_suc (a + 1) n ∙ ap (λ k. range_with_len (a + 1) n ++ k ∷ []) e)

-- those of the numbers up to one more that pass
pub kept_next : (p : ℕ → Bool) (n : ℕ) → filter p (range_with_len 0 (n + 1)) ≡ filter p (range_with_len 0 n) ++ cond (p n) (n ∷ []) []
kept_next p n =
    let e : n + 1 ≡ suc n = omega arith in
    let z : 0 + n ≡ n = omega arith in
    ap (λ k. filter p (range_with_len 0 k)) e ∙ ap (filter p) (range_suc 0 n) ∙ filter-append p (range_with_len 0 n) ((0 + n) ∷ [])
    ∙ ap (λ k. filter p (range_with_len 0 n) ++ cond (p k) (k ∷ []) []) z
