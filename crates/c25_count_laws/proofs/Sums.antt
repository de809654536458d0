-- Sums of counts, and one more at one address.
use Rattle.std.proofs.Common.{◌≡◌, ℕ, zero, suc, ◌+◌, ◌<◌, Bool, true, false, eqb, if◌then◌else◌, Option, None, Some, refl, subst, arith, ⊎_elim}
use Rattle.std.proofs.lemmas.Bool.{cases_lt}
use Rattle.std.proofs.lemmas.Bool.Decides.{nat_tests}
use Rattle.c25_count_laws.specs.Counts.{NoneFrom, one_asleep, one_at, sum_below}

pub none_sum : (bound : ℕ) (c : ℕ → ℕ) → ((a : ℕ) → c a ≡ 0) → sum_below bound c ≡ 0
none_sum zero c none = refl
none_sum (suc bound) c none = let sum = none_sum bound c none in let last = none bound in omega (arith, sum, last)

-- the number 1, of which the type is said
abbrev one : ℕ
one = 1

pub one_here : (a : ℕ) → one_at (Some a) a ≡ 1
one_here a = go (eqb a a) refl
  where
    go : (c : Bool) → eqb a a ≡ c → (if c then one else 0) ≡ one
    go true e = refl
    go false e = absurd (let t : eqb a a ≡ true = grind (arith, nat_tests) in cc)

pub one_elsewhere : (b a : ℕ) → (b ≡ a → ⊥) → one_at (Some b) a ≡ 0
one_elsewhere b a apart = go (eqb b a) refl
  where
    go : (c : Bool) → eqb b a ≡ c → (if c then one else 0) ≡ 0
    go true e = absurd (apart (grind (arith, nat_tests)))
    go false e = refl

module _ (c d : ℕ → ℕ) where
  same_sum : (bound : ℕ) → ((a : ℕ) → a < bound → c a ≡ d a) → sum_below bound c ≡ sum_below bound d
  same_sum zero same = refl
  same_sum (suc bound) same =
      let earlier = same_sum bound (λ a below. same a (omega (arith, below))) in
      let last = same bound (omega arith) in
      omega (arith, earlier, last)

  -- one more at one address is one more in the sum
  more_sum : (b bound : ℕ) → b < bound → ((a : ℕ) → c a ≡ d a + one_at (Some b) a) → sum_below bound c ≡ sum_below bound d + 1
  more_sum b zero below sums = absurd (omega (arith, below))
  more_sum b (suc bound) below sums =
      ⊎_elim
      (λ less.
      let earlier = more_sum b bound less sums in
      let last = sums bound in
      let none = one_elsewhere b bound (λ e. omega (arith, e, less)) in
      omega (arith, earlier, last, none))
      (λ least.
      let same : b ≡ bound = omega (arith, least, below) in
      let earlier = same_sum bound (λ a under.
      let sum = sums a in
      let none = one_elsewhere b a (λ e. omega (arith, e, under, same)) in
      omega (arith, sum, none)) in
      let last = sums bound in
      let here = subst (λ (x : ℕ). one_at (Some b) x ≡ 1) same (one_here b) in
      omega (arith, earlier, last, here))
      (cases_lt b bound)

  pub step_sum : (o : Option ℕ) (bound : ℕ) → NoneFrom bound c → ((a : ℕ) → c a ≡ d a + one_at o a) → sum_below bound c + one_asleep o ≡ sum_below bound d + 1
  step_sum None bound none sums =
      let same = same_sum bound (λ a below. let sum = sums a in omega (arith, sum)) in
      omega (arith, same)
  step_sum (Some b) bound none sums =
      ⊎_elim
      (λ below. let more = more_sum b bound below sums in omega (arith, more))
      (λ above.
      let sum = sums b in
      let here = one_here b in
      let zero_there = none b (omega (arith, above)) in
      absurd (omega (arith, sum, here, zero_there)))
      (cases_lt b bound)

  pub fewer : (o : Option ℕ) (bound : ℕ) → NoneFrom bound c → ((a : ℕ) → c a ≡ d a + one_at o a) → NoneFrom bound d
  fewer o bound none sums a least = let sum = sums a in let nothing = none a least in omega (arith, sum, nothing)
