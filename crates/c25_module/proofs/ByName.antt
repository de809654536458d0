-- Names that differ, and the numbers of their symbols sorted by name.
use Rattle.std.proofs.Common.{◌≡◌, ℕ, ◌+◌, ◌<◌, Bool, true, false, cond, eqb, eqb-true, List, length, get_or, refl, sym, ap, ◌∙◌, arith}
use borrow.Author.Tests.{eqb-false}
use Rattle.std.specs.List.{swap}
use Rattle.std.specs.List.Sorted.{IsPermutation, IsSortedBy}
use Rattle.std.specs.Ordering.{is_lt, is_eq, nat_cmp, ordering_reverse}
use Rattle.std.specs.Cmp.Lexicographic.{slice_cmp}
use Rattle.std.specs.declared.cmp.Ordering.{Ordering}
use Rattle.std.specs.declared.cmp.Ordering.TheVariants.{Less, Equal, Greater}
use Rattle.std.proofs.lemmas.Bool.Decides.{nat_tests}
use Rattle.std.proofs.lemmas.Grind.{get_or_default_zero}
use Rattle.std.proofs.lemmas.Map.Text.{is_eq-slice_cmp}
use Rattle.std.proofs.lemmas.Slice.Eq.{bytes_eq-Decides}
use Rattle.std.proofs.lemmas.Cmp.{nat_list_cmp_total}
use Rattle.std.proofs.lemmas.List.Edits.{Swapped, swapped_from_swap, length-swap}
use Rattle.std.proofs.lemmas.List.Sorted.{IsPermutation-keeps, IsPermutation-sym, sorted_far, ranks_by}

-- ---- different names stay different when they are moved

-- where the item of a place stood before the places a and b were swapped
abbrev before_swap : ℕ → ℕ → ℕ → ℕ
before_swap a b i = cond (eqb i a) b (cond (eqb i b) a i)

before_swap-injective : (a b i j : ℕ) → before_swap a b i ≡ before_swap a b j → i ≡ j
before_swap-injective a b i j e = grind (arith, nat_tests)

before_swap-below : (a b i n : ℕ) → a < n → b < n → i < n → before_swap a b i < n
before_swap-below a b i n p q r = grind (arith, nat_tests)

swapped_at : (f g : ℕ → ℕ) (a b i : ℕ) → Swapped f g a b → g i ≡ f (before_swap a b i)
swapped_at f g a b i s = by_tests (eqb i a) (eqb i b) refl refl where
  by_tests : (t u : Bool) → t ≡ eqb i a → u ≡ eqb i b → g i ≡ f (cond t b (cond u a i))
  by_tests true u e h = ap g (eqb-true i a (sym e)) ∙ s.0
  by_tests false true e h = ap g (eqb-true i b (sym h)) ∙ s.1
  by_tests false false e h = s.2 i (eqb-false i a (sym e)) (eqb-false i b (sym h))

get_or-swap : (xs : List ℕ) (a b i : ℕ) → a < length xs → b < length xs → get_or (swap xs a b) i 0 ≡ get_or xs (before_swap a b i) 0
get_or-swap xs a b i p q =
    swapped_at (λ (k : ℕ). get_or xs k 0) (λ (k : ℕ). get_or (swap xs a b) k 0) a b i (swapped_from_swap xs (swap xs a b) a b 0 p q refl)

-- two items that f sees as one are one
pub record IsInjectiveOn (f : ℕ → List ℕ) (xs : List ℕ) : Type 0 where
  pub same : (i j : ℕ) → i < length xs → j < length xs → f (get_or xs i 0) ≡ f (get_or xs j 0) → i ≡ j

IsInjectiveOn-swap : (f : ℕ → List ℕ) (xs : List ℕ) (a b : ℕ) → a < length xs → b < length xs → IsInjectiveOn f xs → IsInjectiveOn f (swap xs a b)
IsInjectiveOn-swap f xs a b p q h = record {
  same = λ i j r s e.
      let n : length (swap xs a b) ≡ length xs = length-swap xs a b in
      let i_below : i < length xs = omega arith in
      let j_below : j < length xs = omega arith in
      before_swap-injective a b i j
      (h.same (before_swap a b i) (before_swap a b j) (before_swap-below a b i (length xs) p q i_below) (before_swap-below a b j (length xs) p q j_below)
      (sym (ap f (get_or-swap xs a b i p q)) ∙ e ∙ ap f (get_or-swap xs a b j p q)));
}

pub IsInjectiveOn-permutation : (f : ℕ → List ℕ) (xs ys : List ℕ) → IsPermutation xs ys → IsInjectiveOn f xs → IsInjectiveOn f ys
IsInjectiveOn-permutation f xs ys moved h =
    IsPermutation-keeps xs (IsInjectiveOn f) h (λ l i j p q k. IsInjectiveOn-swap f l i j p q k) ys moved

-- ---- sorted names differ where neighbours do

-- neither is below the other
tied : (a b : List ℕ) → is_lt (slice_cmp nat_cmp a b) ≡ false → is_lt (slice_cmp nat_cmp b a) ≡ false → slice_cmp nat_cmp a b ≡ Equal
tied a b p q = tied_by (slice_cmp nat_cmp a b) (slice_cmp nat_cmp b a) (nat_list_cmp_total.antisymm a b) p q where
  tied_by : (r s : Ordering) → r ≡ ordering_reverse s → is_lt r ≡ false → is_lt s ≡ false → r ≡ Equal
  tied_by r Less e p q = absurd cc
  tied_by r Equal e p q = e
  tied_by Less Greater e p q = absurd cc
  tied_by Equal Greater e p q = refl
  tied_by Greater Greater e p q = absurd cc

same_name : (a b : List ℕ) → slice_cmp nat_cmp a b ≡ Equal → a ≡ b
same_name a b e = (bytes_eq-Decides a b).0 (sym (is_eq-slice_cmp a b) ∙ ap is_eq e)

-- no name stands below the one before it
abbrev IsAscending : (ℕ → List ℕ) → List ℕ → Type 0
IsAscending f xs = (k : ℕ) → k + 1 < length xs → is_lt (slice_cmp nat_cmp (f (get_or xs (k + 1) 0)) (f (get_or xs k 0))) ≡ false

abbrev below_by : (ℕ → List ℕ) → ℕ → ℕ → Bool
below_by f a b = is_lt (slice_cmp nat_cmp (f a) (f b))

sorted_by : (f : ℕ → List ℕ) (xs : List ℕ) → IsAscending f xs → IsSortedBy (below_by f) xs
sorted_by f xs up k d low below =
    let next : get_or xs (k + 1) d ≡ get_or xs (k + 1) 0 = get_or_default_zero xs (k + 1) d below in
    let this : get_or xs k d ≡ get_or xs k 0 = get_or_default_zero xs k d (omega arith) in
    rw (next, this) (up k below)

far_apart : (f : ℕ → List ℕ) (xs : List ℕ) → IsAscending f xs → ((k : ℕ) → k + 1 < length xs → f (get_or xs k 0) ≡ f (get_or xs (k + 1) 0) → ⊥)
    → (i j : ℕ) → i < j → j < length xs → f (get_or xs i 0) ≡ f (get_or xs j 0) → ⊥
far_apart f xs up next i j less below e =
    let far : is_lt (slice_cmp nat_cmp (f (get_or xs j 0)) (f (get_or xs (i + 1) 0))) ≡ false =
    sorted_far (below_by f) (ranks_by nat_list_cmp_total f) xs (sorted_by f xs up) (i + 1) j 0 (omega arith) below in
    let back : is_lt (slice_cmp nat_cmp (f (get_or xs i 0)) (f (get_or xs (i + 1) 0))) ≡ false =
    ap (λ (name : List ℕ). is_lt (slice_cmp nat_cmp name (f (get_or xs (i + 1) 0)))) e ∙ far in
    next i (omega arith) (same_name (f (get_or xs i 0)) (f (get_or xs (i + 1) 0)) (tied (f (get_or xs i 0)) (f (get_or xs (i + 1) 0)) back (up i (omega arith))))

neither_less : (i j : ℕ) → (i < j → ⊥) → (j < i → ⊥) → i ≡ j
neither_less i j p q = omega arith

pub IsInjectiveOn-sorted : (f : ℕ → List ℕ) (xs : List ℕ) → IsAscending f xs → ((k : ℕ) → k + 1 < length xs → f (get_or xs k 0) ≡ f (get_or xs (k + 1) 0) → ⊥) → IsInjectiveOn f xs
IsInjectiveOn-sorted f xs up next = record {
  same = λ i j p q e. neither_less i j (λ less. far_apart f xs up next i j less q e) (λ less. far_apart f xs up next j i less p (sym e));
}

-- ---- the numbers of all symbols

-- the numbers 0, 1, 2 and so on, sorted by what f gives: no two neighbours are one to f just where no two of them are
pub differ_if_neighbours : (f : ℕ → List ℕ) (n : ℕ) (counted sorted : List ℕ) → length counted ≡ n → ((k : ℕ) → k < length counted → get_or counted k 0 ≡ k)
    → IsPermutation counted sorted → IsAscending f sorted → ((k : ℕ) → k + 1 < length sorted → f (get_or sorted k 0) ≡ f (get_or sorted (k + 1) 0) → ⊥)
    → (i j : ℕ) → i < n → j < n → f i ≡ f j → i ≡ j
differ_if_neighbours f n counted sorted len at moved up next i j p q e =
    let h = IsInjectiveOn-permutation f sorted counted (IsPermutation-sym counted sorted moved) (IsInjectiveOn-sorted f sorted up next) in
    let i_below : i < length counted = omega arith in
    let j_below : j < length counted = omega arith in
    h.same i j i_below j_below (ap f (at i i_below) ∙ e ∙ sym (ap f (at j j_below)))

pub neighbours_if_differ : (f : ℕ → List ℕ) (n : ℕ) (counted sorted : List ℕ) → length counted ≡ n → ((k : ℕ) → k < length counted → get_or counted k 0 ≡ k)
    → IsPermutation counted sorted → ((i j : ℕ) → i < n → j < n → f i ≡ f j → i ≡ j)
    → (k : ℕ) → k + 1 < length sorted → f (get_or sorted k 0) ≡ f (get_or sorted (k + 1) 0) → ⊥
neighbours_if_differ f n counted sorted len at moved h k below e =
    let start : IsInjectiveOn f counted = record {
      same = λ i j p q same. h i j (omega arith) (omega arith) (sym (ap f (at i p)) ∙ same ∙ ap f (at j q));
    } in
    let one : k ≡ k + 1 = (IsInjectiveOn-permutation f counted sorted moved start).same k (k + 1) (omega arith) below e in
    absurd (omega arith)
