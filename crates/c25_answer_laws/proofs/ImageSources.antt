-- Programs of the sources of images.
use Rattle.std.proofs.Common.{◌≡◌, ◌⊎◌, ℕ, ◌+◌, ◌<◌, ◌≤◌, ltb, Bool, true, false, cond, List, [], ◌∷◌, length, Option, None, Some, Ok, refl, sym, ap, ◌∙◌, arith, inl, inr}
use Rattle.std.specs.Prelude.{unwrap_or}
use Rattle.std.specs.FinMap as finite
use Rattle.std.specs.Ordering.{nat_cmp}
use Rattle.std.proofs.lemmas.Bool.{ltb-true}
use Rattle.c25_answer_laws.specs.ImageWords.{IsSameOrLeftOut}
use Rattle.c25_answer_laws.specs.SameWords.{LoadAlike}
use Rattle.c25_layout.specs.Blank.{IsBlank}
use Rattle.c25_layout.specs.Layout.{ArePartsOf}
use Rattle.c25_layout.specs.declared.layout.Part.{Part}
use Rattle.c25_layout.specs.Layouts.{IsLayout}
use Rattle.c25_layout_laws.specs.Layouts.{IsEmpty}
use Rattle.c25_meaning_linking.specs.Linking.{ImageData}
pub use Rattle.c25_source.proofs.ImageWords.{Laws}
use Rattle.c25_source.proofs.ImageWords.{store_is, word_kept}
use Rattle.c25_source.specs.Answer.{files_of_parts}
use Rattle.c25_source.specs.Kept.{WordKept}
use Rattle.c25_source.specs.Rebuilt.{HasProgram}

-- where no word may be left out, all are the same
all_same : (words : finite.FinMap nat_cmp ℕ) (address : ℕ) (o q : Option ℕ) → IsSameOrLeftOut words 0 address o q → q ≡ o
all_same words address o q (inl same) = same
all_same words address o q (inr (long, gone)) = let from = long.begins in let to = long.ends in absurd (omega (arith, from, to))

same_or_left_out : (words : finite.FinMap nat_cmp ℕ) (blank address : ℕ) (o q : Option ℕ) → WordKept (IsBlank words blank address) o q → IsSameOrLeftOut words blank address o q
same_or_left_out words blank address None None h = inl refl
same_or_left_out words blank address None (Some v) h = absurd h
same_or_left_out words blank address (Some w) None h = inr (h, refl)
same_or_left_out words blank address (Some w) (Some v) h = inl (ap Some (sym h))

pub word_is : Laws → (name : List ℕ) (words : finite.FinMap nat_cmp ℕ) (blank : ℕ) (parts : List Part) → IsLayout parts → ArePartsOf words blank parts → (p : HasProgram (files_of_parts name parts)) (address : ℕ) → address < 65536
    → IsSameOrLeftOut words blank address (finite.get words address) (finite.get p.image.program address)
word_is laws name words blank parts layout are p address small =
    same_or_left_out words blank address (finite.get words address) (finite.get p.image.program address) (word_kept laws name words blank parts layout are p address small)

no_word : (store : finite.FinMap nat_cmp ℕ) (address : ℕ) → IsEmpty store → finite.get store address ≡ None
no_word store address none = go (finite.get store address) refl
  where
    go : (o : Option ℕ) → finite.get store address ≡ o → o ≡ None
    go None e = refl
    go (Some w) e = absurd (none address w e)

pub loads_alike : Laws → (name : List ℕ) (words : finite.FinMap nat_cmp ℕ) (parts : List Part) → IsLayout parts → ArePartsOf words 0 parts → (p : HasProgram (files_of_parts name parts)) (other : ImageData)
    → ((address : ℕ) → address < 65536 → finite.get other.program address ≡ finite.get words address) → IsEmpty other.store → LoadAlike other p.image
loads_alike laws name words parts layout are p other same none =
    record {
      program = λ address. go address (ltb address 65536) refl;
      store = λ address. ap (λ (o : Option ℕ). cond (ltb address 65536) (unwrap_or o 0) 0) (no_word other.store address none ∙ sym (store_is laws name words 0 parts layout are p address));
    }
  where
    go : (address : ℕ) (b : Bool) → ltb address 65536 ≡ b → cond b (unwrap_or (finite.get other.program address) 0) 0 ≡ cond b (unwrap_or (finite.get p.image.program address) 0) 0
    go address true e =
        let small = ltb-true address 65536 e in
        ap (λ (o : Option ℕ). unwrap_or o 0) (same address small ∙ sym (all_same words address _ _ (word_is laws name words 0 parts layout are p address small)))
    go address false e = refl
