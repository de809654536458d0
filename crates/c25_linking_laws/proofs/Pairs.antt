-- What holds of each item of a list with each later one: of lists one after the other, of chosen and mapped
-- items, and of what modules give.
use Rattle.std.proofs.Common.{◌≡◌, ℕ, suc, ◌+◌, ◌<◌, Bool, true, false, cond, List, [], ◌∷◌, ◌++◌, map, filter, Some, refl, sym, subst, arith, inl, inr}
use Rattle.std.specs.Prelude.{All}
use Rattle.std.specs.List.{Contains, slice_get}
use Rattle.std.proofs.lemmas.List.Elements.{All-append, All-contains, All-contains_itself, All-weaker, Contains-append_cases}
use Rattle.c25_meaning_linking.specs.Command.{Pairwise}
use Rattle.c25_meaning_objects.specs.Module.{Contents}
use Rattle.c25_meaning_linking.specs.Place.{by_modules}
use Rattle.c25_linking_laws.proofs.Members.{behind_in, first_in, from_filter, from_map, nothing_in}

-- what holds of each item that is there
pub all_there : {A : Type 0} (P : A → Type 0) (xs : List A) → ((x : A) → Contains xs x → P x) → All P xs
all_there P xs h = All-weaker (Contains xs) P h xs (All-contains_itself xs)

-- ---- one list after another

pairs_append : {A : Type 0} (R : A → A → Type 0) (xs ys : List A) → Pairwise R xs → Pairwise R ys → ((x y : A) → Contains xs x → Contains ys y → R x y) → Pairwise R (xs ++ ys)
pairs_append R [] ys p q h = q
pairs_append R (x ∷ xs) ys p q h =
    (All-append (R x) xs ys p.0 (all_there (R x) ys (λ y c. h x y (first_in x xs) c)), pairs_append R xs ys p.1 q (λ y z c d. h y z (behind_in x y xs c) d))

-- ---- items chosen by a test, and mapped

pub chosen_pairs : {A B : Type 0} (R : A → A → Type 0) (S : B → B → Type 0) (p : A → Bool) (f : A → B) (xs : List A) → Pairwise R xs
    → ((x y : A) → Contains xs x → Contains xs y → p x ≡ true → p y ≡ true → R x y → S (f x) (f y)) → Pairwise S (map f (filter p xs))
chosen_pairs R S p f [] pairs h = tt
chosen_pairs R S p f (x ∷ xs) pairs h = by_test (p x) refl (chosen_pairs R S p f xs pairs.1 (λ y z c d. h y z (behind_in x y xs c) (behind_in x z xs d))) where
  by_test : (b : Bool) → p x ≡ b → Pairwise S (map f (filter p xs)) → Pairwise S (map f (cond b (x ∷ filter p xs) (filter p xs)))
  by_test false e later = later
  by_test true e later = (
    all_there (S (f x)) (map f (filter p xs)) (λ y c.
        let image = from_map f (filter p xs) y c in
        let chosen = from_filter p xs image.0 image.1 in
        subst (S (f x)) image.2 (h x image.0 (first_in x xs) (behind_in x image.0 xs chosen.0) e chosen.1 (All-contains (R x) xs image.0 pairs.0 chosen.0))),
    later,
  )

-- ---- what modules give

-- a module gives this item
pub record IsGiven {A : Type 0} (gives : ℕ → Contents → List A) (number : ℕ) (modules : List Contents) (x : A) : Type 0 where
  pub index : ℕ
  pub owner : Contents
  pub owner_is : slice_get modules index ≡ Some owner
  pub among : Contains (gives (number + index) owner) x

pub from_modules : {A : Type 0} (gives : ℕ → Contents → List A) (number : ℕ) (modules : List Contents) (x : A) → Contains (by_modules gives number modules) x → IsGiven gives number modules x
from_modules gives number [] x c = absurd (nothing_in x c)
from_modules gives number (m ∷ modules) x c =
    elim (Contains-append_cases (gives number m) (by_modules gives (number + 1) modules) x c) [
      | inl here ↦
          let first : number ≡ number + 0 = omega arith in
          record { index = 0; owner = m; owner_is = refl; among = subst (λ n. Contains (gives n m) x) first here }
      | inr later ↦
          let g = from_modules gives (number + 1) modules x later in
          let next : (number + 1) + g.index ≡ number + suc g.index = omega arith in
          record { index = suc g.index; owner = g.owner; owner_is = g.owner_is; among = subst (λ n. Contains (gives n g.owner) x) next g.among }
    ]

pub module_pairs : {A : Type 0} (R : A → A → Type 0) (gives : ℕ → Contents → List A) (number : ℕ) (modules : List Contents)
    → ((i : ℕ) (m : Contents) → slice_get modules i ≡ Some m → Pairwise R (gives (number + i) m))
    → ((i j : ℕ) (m n : Contents) → i < j → slice_get modules i ≡ Some m → slice_get modules j ≡ Some n → (x y : A) → Contains (gives (number + i) m) x → Contains (gives (number + j) n) y → R x y)
    → Pairwise R (by_modules gives number modules)
module_pairs R gives number [] own apart = tt
module_pairs R gives number (m ∷ modules) own apart =
    let first : number + 0 ≡ number = omega arith in
    pairs_append R (gives number m) (by_modules gives (number + 1) modules) (subst (λ k. Pairwise R (gives k m)) first (own 0 m refl))
    (module_pairs R gives (number + 1) modules
    (λ i n is. let next : number + suc i ≡ (number + 1) + i = omega arith in subst (λ k. Pairwise R (gives k n)) next (own (suc i) n is))
    (λ i j n o lt is also x y c d.
    let next : (number + 1) + i ≡ number + suc i = omega arith in
    let later : (number + 1) + j ≡ number + suc j = omega arith in
    apart (suc i) (suc j) n o (omega (arith, lt)) is also x y (subst (λ k. Contains (gives k n) x) next c) (subst (λ k. Contains (gives k o) y) later d)))
    (λ x y c d.
    let g = from_modules gives (number + 1) modules y d in
    let later : (number + 1) + g.index ≡ number + suc g.index = omega arith in
    apart 0 (suc g.index) m g.owner (omega arith) refl g.owner_is x y (subst (λ k. Contains (gives k m) x) (sym first) c) (subst (λ k. Contains (gives k g.owner) y) later g.among))
