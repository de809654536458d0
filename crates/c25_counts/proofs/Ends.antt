-- Where branches end, marked one after the other.
use Rattle.std.proofs.Common.{◌≡◌, ◌∙◌, ℕ, zero, suc, ◌+◌, ◌<◌, ◌≤◌, ◌==◌, ◌||◌, arith, ap, sym, refl, Bool, true, false, drop, length, List}
use Rattle.std.proofs.lemmas.Bool.Decides.{nat_tests}
use Rattle.std.proofs.lemmas.List.{drop_all, drop_more, get_or-set_other, get_or-set_same}
use Rattle.std.specs.Prelude.{◌%◌, ◌^◌, replicate, slice_index, slice_set}
use Rattle.c25_count_laws.specs.Counts.{ends_at}
use Rattle.c25_counts.specs.Counting.{ends_in}

or_true : (b : Bool) → (b || true) ≡ true
or_true true = refl
or_true false = refl

or_false : (b : Bool) → (b || false) ≡ b
or_false true = refl
or_false false = refl

-- one more place is marked
marked : (ends : List Bool) (place pc : ℕ) → place < length ends → ends_in (slice_set ends place true) pc ≡ (ends_in ends pc || (place == pc))
marked ends place pc room = go (place == pc) refl
  where
    go : (b : Bool) → (place == pc) ≡ b → ends_in (slice_set ends place true) pc ≡ (ends_in ends pc || b)
    go true e =
        let same : place ≡ pc = grind (arith, nat_tests) in
        ap (λ (at : ℕ). ends_in (slice_set ends place true) at) (sym same) ∙ get_or-set_same ends place true false room ∙ sym (or_true (ends_in ends pc))
    go false e =
        let apart : pc ≡ place → ⊥ = λ same. absurd (let t : (place == pc) ≡ true = grind (arith, nat_tests) in cc) in
        get_or-set_other ends place pc true false apart ∙ sym (or_false (ends_in ends pc))

or_assoc : (x y z : Bool) → ((x || y) || z) ≡ (x || (y || z))
or_assoc true y z = refl
or_assoc false y z = refl

-- one more branch is marked, and is not among the rest any more
pub mark_one : (ends : List Bool) (branches : List ℕ) (i pc : ℕ) → i < length branches → length ends ≡ 65536
    → (ends_in (slice_set ends ((slice_index branches i + 2) % 2 ^ 16) true) pc || ends_at (drop (i + 1) branches) pc) ≡ (ends_in ends pc || ends_at (drop i branches) pc)
mark_one ends branches i pc within all =
    let place = (slice_index branches i + 2) % 2 ^ 16 in
    let room : place < length ends = omega (arith, all) in
    ap (λ (b : Bool). b || ends_at (drop (i + 1) branches) pc) (marked ends place pc room)
    ∙ or_assoc (ends_in ends pc) (place == pc) (ends_at (drop (i + 1) branches) pc)
    ∙ ap (λ (rest : List ℕ). ends_in ends pc || ends_at rest pc) (sym (drop_more branches i 0 within))

-- all branches are marked
pub all_marked : (ends : List Bool) (branches : List ℕ) (i pc : ℕ) → length branches ≤ i → (ends_in ends pc || ends_at (drop i branches) pc) ≡ ends_in ends pc
all_marked ends branches i pc all = ap (λ (rest : List ℕ). ends_in ends pc || ends_at rest pc) (drop_all i branches all) ∙ or_false (ends_in ends pc)

-- nothing is marked in a new list
unmarked : (n pc : ℕ) → ends_in (replicate n false) pc ≡ false
unmarked zero pc = refl
unmarked (suc n) zero = refl
unmarked (suc n) (suc pc) = unmarked n pc

pub none_marked : (branches : List ℕ) (pc : ℕ) → (ends_in (replicate 65536 false) pc || ends_at branches pc) ≡ ends_at branches pc
none_marked branches pc = ap (λ (b : Bool). b || ends_at branches pc) (unmarked 65536 pc)
