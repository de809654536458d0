-- The last instruction below an address of which the place is known, one address after the other.
use Rattle.std.proofs.Common.{◌≡◌, ◌∙◌, ℕ, zero, suc, ◌≤◌, Bool, true, false, if◌then◌else◌, List, Option, Some, None, ap, arith, is_some, refl, sym}
use Rattle.std.specs.Option.{option_map}
use Rattle.std.proofs.lemmas.Bool.{le-leb, lt-leb}
use Rattle.c25_meaning_linking.specs.Linking.{ImageData, line_at}
use Rattle.c25_run_ends.specs.Ground.{line_below, line_or}

module _ (image : ImageData) (base at less : ℕ) (next : at ≡ suc less) (within : base ≤ less) where
  below_is : line_below image base at ≡ line_or (line_at less image.lines) (line_below image base less)
  below_is =
      ap (line_below image base) next
      ∙ ap (λ b. if b then line_or (line_at less image.lines) (line_below image base less) else None) (le-leb base less within)

  -- there is none there: it is below
  pub below_kept : {A : Type 0} (f : A → List ℕ × ℕ) (r : Option A) (some : Bool) → some ≡ is_some r → some ≡ false → option_map f r ≡ line_at less image.lines
      → line_below image base less ≡ line_below image base at
  below_kept f None some is absent told = sym (below_is ∙ ap (λ o. line_or o (line_below image base less)) (sym told))
  below_kept f (Some x) some is absent told = absurd (let clash = sym absent ∙ is in cc)

  pub below_given : {A : Type 0} (f : A → List ℕ × ℕ) (r : Option A) (some : Bool) → some ≡ is_some r → some ≡ true → option_map f r ≡ line_at less image.lines
      → option_map f r ≡ line_below image base at
  below_given f None some is there told = absurd (let clash = sym there ∙ is in cc)
  below_given f (Some x) some is there told = sym (below_is ∙ ap (λ o. line_or o (line_below image base less)) (sym told))

-- there is none below the base
pub below_base : (image : ImageData) (base at : ℕ) → at ≤ base → line_below image base at ≡ None
below_base image base zero few = refl
below_base image base (suc less) few = ap (λ b. if b then line_or (line_at less image.lines) (line_below image base less) else None) (lt-leb base less (omega (arith, few)))
