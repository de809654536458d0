-- Samples of a port that are counted as they are taken.
use Rattle.std.proofs.Common.{◌≡◌, ◌∙◌, ℕ, ◌+◌, ◌<◌, ◌==◌, Bool, true, false, not, if◌then◌else◌, List, Option, Some, None, length, drop, ap, arith, refl, sym, is_some}
use Rattle.std.specs.Prelude.{IfNone, MatchOption, T}
use Rattle.std.specs.List.{slice_get}
use Rattle.std.proofs.lemmas.List.{length-drop}
use Rattle.std.proofs.lemmas.Option.{slice_get_within}
use Rattle.std.proofs.Math.Dec.{eqb_refl}
use Rattle.std.proofs.lemmas.Bool.{ne_eqb}
use Rattle.c25_meaning_processor.specs.State.{taken}

holds : (b : Bool) → T b → b ≡ true
holds true h = refl
holds false h = absurd h

taken_here : (samples : ℕ → List ℕ) (port : ℕ) → taken samples port port ≡ drop 1 (samples port)
unfolding taken
taken_here samples port = ap (λ b. if b then drop 1 (samples port) else samples port) (holds (port == port) (eqb_refl port))

taken_there : (samples : ℕ → List ℕ) (port other : ℕ) → (other ≡ port → ⊥) → taken samples port other ≡ samples other
unfolding taken
taken_there samples port other apart = ap (λ b. if b then drop 1 (samples other) else samples other) (ne_eqb other port apart)

-- where one is taken, those of other ports stay
pub others_kept : (first before after : ℕ → List ℕ) (port : ℕ) (r : Option ℕ) (absent : Bool) → is_some r ≡ not absent → absent ≡ false → MatchOption r (Unit {0}) (λ x. after ≡ taken before port)
    → ((other : ℕ) → (other ≡ port → ⊥) → before other ≡ first other) → (other : ℕ) → (other ≡ port → ⊥) → after other ≡ first other
others_kept first before after port None absent some none took kept other apart = absurd (let clash = some ∙ ap not none in cc)
others_kept first before after port (Some x) absent some none took kept other apart =
    ap (λ f. f other) took ∙ taken_there before port other apart ∙ kept other apart

pub others_none : (first before after : ℕ → List ℕ) (port : ℕ) (r : Option ℕ) (absent : Bool) → is_some r ≡ not absent → absent ≡ true → IfNone r (after ≡ before)
    → ((other : ℕ) → (other ≡ port → ⊥) → before other ≡ first other) → (other : ℕ) → (other ≡ port → ⊥) → after other ≡ first other
others_none first before after port None absent some none same kept other apart = ap (λ f. f other) same ∙ kept other apart
others_none first before after port (Some x) absent some none same kept other apart = absurd (let clash = some ∙ ap not none in cc)

-- one more is counted, and one fewer is left
pub count_kept : (before after : ℕ → List ℕ) (port count total : ℕ) (r : Option ℕ) (absent : Bool) → count + length (before port) ≡ total → r ≡ slice_get (before port) 0 → is_some r ≡ not absent → absent ≡ false
    → MatchOption r (Unit {0}) (λ x. after ≡ taken before port) → count + 1 + length (after port) ≡ total
count_kept before after port count total None absent so is some none took = absurd (let clash = some ∙ ap not none in cc)
count_kept before after port count total (Some x) absent so is some none took =
    let within : 0 < length (before port) = slice_get_within (before port) 0 x (sym is) in
    let left : length (after port) ≡ length (drop 1 (before port)) = ap (λ f. length (f port)) took ∙ ap length (taken_here before port) in
    omega (arith, so, within, left, length-drop 1 (before port))
