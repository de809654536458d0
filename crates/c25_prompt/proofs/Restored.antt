-- A breakpoint that is set and taken away again.
use Rattle.std.proofs.Common.{◌≡◌, ℕ, ◌==◌, Bool, true, false, cond, ◌||◌, not, List, [], ◌∷◌, ◌++◌, length, nat_lt, refl, ap, ◌∙◌, eq-eqb}
use Rattle.c25_meaning_processor.specs.Goes.{is_breakpoint}
use Rattle.c25_meaning_processor.specs.Set.{with_breakpoint, without_breakpoint}

true_not_false : true ≡ false → ⊥
true_not_false e = absurd (cc)

module _ (address : ℕ) where
  one_kept : (b : Bool) (x : ℕ) (xs ys : List ℕ) → (b || is_breakpoint xs address) ≡ false → (is_breakpoint xs address ≡ false → ys ≡ xs)
      → cond (not b) (x ∷ ys) ys ≡ x ∷ xs
  one_kept true x xs ys none rest = absurd (true_not_false none)
  one_kept false x xs ys none rest = ap (λ zs. x ∷ zs) (rest none)

  -- a breakpoint that is not set is cleared
  kept : (breaks : List ℕ) → is_breakpoint breaks address ≡ false → without_breakpoint breaks address ≡ breaks
  kept [] none = refl
  kept (b ∷ bs) none = one_kept (b == address) b bs (without_breakpoint bs address) none (kept bs)

  last_dropped : (b : Bool) → b ≡ true → cond (not b) (address ∷ []) [] ≡ []
  last_dropped b is = ap (λ t. cond (not t) (address ∷ []) []) is

  -- a breakpoint that was set last is cleared
  dropped : (breaks : List ℕ) → is_breakpoint breaks address ≡ false → without_breakpoint (breaks ++ address ∷ []) address ≡ breaks
  dropped [] none = last_dropped (address == address) (eq-eqb address address refl)
  dropped (b ∷ bs) none = one_kept (b == address) b bs (without_breakpoint (bs ++ address ∷ []) address) none (dropped bs)

  by_room : (breaks : List ℕ) (room : Bool) → is_breakpoint breaks address ≡ false → without_breakpoint (cond room (breaks ++ address ∷ []) breaks) address ≡ breaks
  by_room breaks true none = dropped breaks none
  by_room breaks false none = kept breaks none

  by_test : (breaks : List ℕ) (b : Bool) → is_breakpoint breaks address ≡ false → b ≡ false
      → without_breakpoint (cond b breaks (cond (nat_lt (length breaks) 64) (breaks ++ address ∷ []) breaks)) address ≡ breaks
  by_test breaks b none is = ap (λ t. without_breakpoint (cond t breaks (cond (nat_lt (length breaks) 64) (breaks ++ address ∷ []) breaks)) address) is ∙ by_room breaks (nat_lt (length breaks) 64) none

  -- a breakpoint that was not set, set and cleared
  pub cleared_again : (breaks : List ℕ) → is_breakpoint breaks address ≡ false → without_breakpoint (with_breakpoint breaks address) address ≡ breaks
  cleared_again breaks none = by_test breaks (is_breakpoint breaks address) none none

  -- a breakpoint that was set, set once more
  pub set_again : (breaks : List ℕ) → is_breakpoint breaks address ≡ true → with_breakpoint breaks address ≡ breaks
  set_again breaks is = ap (λ t. cond t breaks (cond (nat_lt (length breaks) 64) (breaks ++ address ∷ []) breaks)) is
