-- Items in the order of their places: what a stable sort leaves, and what two searches cut out.
use Rattle.std.proofs.Common.{◌≡◌, ◌≤◌, ℕ, zero, suc, ◌-◌, ◌==◌, ◌&&◌, Bool, true, false, not, cond, nat_lt, nat_le, List, [], ◌∷◌, length, filter, take, drop, get_or, refl, sym, ap, ◌∙◌, arith, inl, inr}
use Rattle.std.specs.List.Sorted.{IsPartitionPoint, IsStableByKey, ties}
use Rattle.std.specs.Ordering.{is_lt, nat_cmp}
use Rattle.std.specs.declared.cmp.Ordering.TheVariants.{Less, Equal, Greater}
use Rattle.std.proofs.lemmas.Bool.{cases_lt}
use Rattle.std.proofs.lemmas.Bool.Decides.{nat_tests}
use Rattle.c25_dis.specs.Index.{is_at}
use Rattle.c25_dis.specs.declared.index.IndexEntry.{IndexEntry}

-- a filter by the same test under another name
pub filter_alike : {A : Type 0} (f g : A → Bool) → ((x : A) → f x ≡ g x) → (xs : List A) → filter f xs ≡ filter g xs
filter_alike f g same [] = refl
filter_alike {A = A} f g same (x ∷ xs) =
    ap (λ (b : Bool). cond b (x ∷ filter f xs) (filter f xs)) (same x) ∙ ap (λ (ys : List A). cond (g x) (x ∷ ys) ys) (filter_alike f g same xs)

-- ---- a stable sort

less_is : (a b : ℕ) → is_lt (nat_cmp a b) ≡ nat_lt a b
less_is a b = by_tests (nat_lt a b) (a == b) where
  by_tests : (t u : Bool) → is_lt (cond t Less (cond u Equal Greater)) ≡ t
  by_tests true u = refl
  by_tests false true = refl
  by_tests false false = refl

neither : (p q : ℕ) → (not (nat_lt p q) && not (nat_lt q p)) ≡ (q == p)
neither p q = grind (arith, nat_tests)

tied : (p q : ℕ) → (not (is_lt (nat_cmp p q)) && not (is_lt (nat_cmp q p))) ≡ (q == p)
tied p q =
    ap (λ (b : Bool). not b && not (is_lt (nat_cmp q p))) (less_is p q) ∙ ap (λ (b : Bool). not (nat_lt p q) && not b) (less_is q p) ∙ neither p q

-- the items of a place stay, and in their order
pub stable_at : (xs ys : List IndexEntry) → IsStableByKey (λ (x : IndexEntry). x.place) nat_cmp xs ys → (place : ℕ) → filter (is_at place) ys ≡ filter (is_at place) xs
stable_at xs ys stable place =
    let one : IndexEntry = record { place = place; number = 0 } in
    let tie : IndexEntry → Bool = ties (λ (a b : IndexEntry). is_lt (nat_cmp a.place b.place)) one in
    let same : (y : IndexEntry) → is_at place y ≡ tie y = λ y. sym (tied place y.place) in
    filter_alike (is_at place) tie same ys ∙ stable one ∙ sym (filter_alike (is_at place) tie same xs)

-- ---- two searches

-- whether an item stands below a place, and whether it stands below the place or at it
abbrev pub IsBelow : ℕ → IndexEntry → Bool
IsBelow place x = nat_lt x.place place

abbrev pub IsUpTo : ℕ → IndexEntry → Bool
IsUpTo place x = nat_le x.place place

-- the items that pass a test are those before a number
abbrev pub Ends : (IndexEntry → Bool) → List IndexEntry → ℕ → Type 0
Ends p xs i = IsPartitionPoint (λ y. p y ≡ true) (λ y. p y ≡ false) xs i

-- the items below a place end before those up to the place do
pub in_order : (place : ℕ) (xs : List IndexEntry) (i j : ℕ) → i ≤ length xs → j ≤ length xs → Ends (IsBelow place) xs i → Ends (IsUpTo place) xs j → i ≤ j
in_order place xs i j within within_2 below up =
    elim (cases_lt j i) [
      | inl lt ↦
          let d : IndexEntry = record { place = 0; number = 0 } in
          let first : nat_lt (get_or xs j d).place place ≡ true = below.0 j d (omega arith) lt in
          let second : nat_le (get_or xs j d).place place ≡ false = up.1 j d (omega arith) (omega (arith, lt, within)) in
          absurd (apart (get_or xs j d).place place first second)
      | inr ge ↦ ge
    ]
  where
    apart : (a b : ℕ) → nat_lt a b ≡ true → nat_le a b ≡ false → ⊥
    apart a b h k = grind (arith, nat_tests)

skipped : (place : ℕ) (x : IndexEntry) (xs : List IndexEntry) → (x.place == place) ≡ false → filter (is_at place) (x ∷ xs) ≡ filter (is_at place) xs
skipped place x xs h = ap (λ (b : Bool). cond b (x ∷ filter (is_at place) xs) (filter (is_at place) xs)) h

kept : (place : ℕ) (x : IndexEntry) (xs : List IndexEntry) → (x.place == place) ≡ true → filter (is_at place) (x ∷ xs) ≡ x ∷ filter (is_at place) xs
kept place x xs h = ap (λ (b : Bool). cond b (x ∷ filter (is_at place) xs) (filter (is_at place) xs)) h

not_below : (a b : ℕ) → nat_lt a b ≡ true → (a == b) ≡ false
not_below a b h = grind (arith, nat_tests)

not_above : (a b : ℕ) → nat_le a b ≡ false → (a == b) ≡ false
not_above a b h = grind (arith, nat_tests)

just_there : (a b : ℕ) → nat_lt a b ≡ false → nat_le a b ≡ true → (a == b) ≡ true
just_there a b h k = grind (arith, nat_tests)

behind : (p : IndexEntry → Bool) (x : IndexEntry) (xs : List IndexEntry) (i : ℕ) → Ends p (x ∷ xs) (suc i) → Ends p xs i
behind p x xs i e = ((λ k d lo hi. e.0 (suc k) d (omega arith) (omega arith)), (λ k d lo hi. e.1 (suc k) d (omega arith) (omega arith)))

behind_none : (p : IndexEntry → Bool) (x : IndexEntry) (xs : List IndexEntry) → Ends p (x ∷ xs) zero → Ends p xs zero
behind_none p x xs e = ((λ k d lo hi. absurd (omega arith)), (λ k d lo hi. e.1 (suc k) d (omega arith) (omega arith)))

-- between the two ends stand those of the place
pub cut_out : (place : ℕ) (xs : List IndexEntry) (i j : ℕ) → i ≤ j → j ≤ length xs → Ends (IsBelow place) xs i → Ends (IsUpTo place) xs j → take (j - i) (drop i xs) ≡ filter (is_at place) xs
cut_out place [] zero zero le within below up = refl
cut_out place [] zero (suc j) le within below up = absurd (omega arith)
cut_out place [] (suc i) j le within below up = absurd (omega arith)
cut_out place (x ∷ xs) zero zero le within below up =
    let rest = cut_out place xs zero zero (omega arith) (omega arith) (behind_none (IsBelow place) x xs below) (behind_none (IsUpTo place) x xs up) in
    rest ∙ sym (skipped place x xs (not_above x.place place (up.1 0 x (omega arith) (omega arith))))
cut_out place (x ∷ xs) zero (suc j) le within below up =
    let rest = cut_out place xs zero j (omega arith) (omega arith) (behind_none (IsBelow place) x xs below) (behind (IsUpTo place) x xs j up) in
    let whole : suc j - 0 ≡ suc j = omega arith in
    let less : j ≡ j - 0 = omega arith in
    let here = just_there x.place place (below.1 0 x (omega arith) (omega arith)) (up.0 0 x (omega arith) (omega arith)) in
    ap (λ (n : ℕ). take n (x ∷ xs)) whole ∙ ap (λ (n : ℕ). x ∷ take n xs) less ∙ ap (λ (ys : List IndexEntry). x ∷ ys) rest ∙ sym (kept place x xs here)
cut_out place (x ∷ xs) (suc i) zero le within below up = absurd (omega arith)
cut_out place (x ∷ xs) (suc i) (suc j) le within below up =
    let rest = cut_out place xs i j (omega arith) (omega arith) (behind (IsBelow place) x xs i below) (behind (IsUpTo place) x xs j up) in
    let same : suc j - suc i ≡ j - i = omega arith in
    ap (λ (n : ℕ). take n (drop i xs)) same ∙ rest ∙ sym (skipped place x xs (not_below x.place place (below.0 0 x (omega arith) (omega arith))))
