-- A range that is reported as missing for a section is indeed missing.
use Rattle.std.proofs.Common.{◌≡◌, ℕ, Bool, true, false, ◌||◌, cond, List, [], ◌∷◌, Option, Some, None, filter, refl, ap, ◌∙◌}
use Rattle.std.specs.List.{list_any}
use Rattle.std.specs.Prelude.{◌==◌, unwrap_or}
use Rattle.c25_meaning_linking.specs.Command.{Anywhere, At, InRange, RangeData, TargetData}
use Rattle.c25_meaning_linking.specs.GoodMap.{default_page, is_named_on, is_usable}
use Rattle.c25_place.specs.Missing.{Any, MissingData, Named, OnPage, has_named, has_page, missing_for, missing_page, unless}

-- where nothing is left of a list, nothing of it passes
none_passes : {A : Type 0} (test : A → Bool) (xs : List A) → filter test xs ≡ [] → list_any test xs ≡ false
none_passes test [] e = refl
none_passes {A = A} test (x ∷ xs) e = by_first (test x) e (none_passes test xs) where
  by_first : (t : Bool) → cond t (x ∷ filter test xs) (filter test xs) ≡ [] → (filter test xs ≡ [] → list_any test xs ≡ false) → (t || list_any test xs) ≡ false
  by_first true e rest = absurd cc
  by_first false e rest = rest e

told_so : (there : Bool) (what : MissingData) → there ≡ false → unless there what ≡ Some what
told_so there what e = ap (λ b. unless b what) e

-- `IsSoOf` of a section, by the section's parts
abbrev IsSo : List RangeData → TargetData → Option ℕ → (initialised : Bool) → MissingData → Type 0
IsSo ranges target page initialised (Named name at) = (target ≡ InRange name) × (page ≡ at) × (has_named ranges name at ≡ false)
IsSo ranges target page initialised (OnPage at) = (unwrap_or page (default_page ranges target initialised) ≡ at) × (has_page ranges at ≡ false)
IsSo ranges target page initialised Any = (has_page ranges 0 ≡ false) × (has_page ranges 1 ≡ false)

abbrev Told : List RangeData → TargetData → Option ℕ → (initialised : Bool) → Type 0
Told ranges target page initialised = (what : MissingData) × (missing_for ranges target page ≡ Some what) × IsSo ranges target page initialised what

-- neither page has a range of the name
on_default : (ranges : List RangeData) (name : List ℕ) (t : Bool) → list_any (is_named_on name 0) ranges ≡ t
    → filter (is_named_on name (cond t 0 1)) ranges ≡ [] → has_named ranges name None ≡ false
on_default ranges name true e none = absurd (let off = none_passes (is_named_on name 0) ranges none in cc)
on_default ranges name false e none = ap (λ b. b || list_any (is_named_on name 1) ranges) e ∙ none_passes (is_named_on name 1) ranges none

-- which page has none
of_program : (ranges : List RangeData) (s : Bool) → has_page ranges 0 ≡ false → has_page ranges 1 ≡ s → Told ranges Anywhere None true
of_program ranges true off on = (OnPage 0, (λ i. missing_page (off i) (on i)), (refl, off))
of_program ranges false off on = (Any, (λ i. missing_page (off i) (on i)), (off, on))

of_data : (ranges : List RangeData) (p : Bool) → has_page ranges 0 ≡ p → has_page ranges 1 ≡ false → Told ranges Anywhere None false
of_data ranges true on off = (OnPage 1, (λ i. missing_page (on i) (off i)), (refl, off))
of_data ranges false on off = (Any, (λ i. missing_page (on i) (off i)), (on, off))

pub lacks_so : (ranges : List RangeData) (target : TargetData) (page : Option ℕ) (initialised : Bool)
    → filter (is_usable target (unwrap_or page (default_page ranges target initialised))) ranges ≡ [] → Told ranges target page initialised
lacks_so ranges (InRange name) (Some page) initialised none =
    let off = none_passes (is_named_on name page) ranges none in
    (Named name (Some page), told_so (list_any (is_named_on name page) ranges) (Named name (Some page)) off, (refl, refl, off))
lacks_so ranges (InRange name) None initialised none =
    let off = on_default ranges name (list_any (is_named_on name 0) ranges) refl none in
    (Named name None, told_so (has_named ranges name None) (Named name None) off, (refl, refl, off))
lacks_so ranges (At address) (Some page) initialised none =
    let off = none_passes (λ (r : RangeData). r.page == page) ranges none in
    (OnPage page, told_so (has_page ranges page) (OnPage page) off, (refl, off))
lacks_so ranges (At address) None initialised none =
    let off = none_passes (λ (r : RangeData). r.page == 0) ranges none in
    (OnPage 0, told_so (has_page ranges 0) (OnPage 0) off, (refl, off))
lacks_so ranges Anywhere (Some page) initialised none =
    let off = none_passes (λ (r : RangeData). r.page == page) ranges none in
    (OnPage page, told_so (has_page ranges page) (OnPage page) off, (refl, off))
lacks_so ranges Anywhere None true none = of_program ranges (has_page ranges 1) (none_passes (λ (r : RangeData). r.page == 0) ranges none) refl
lacks_so ranges Anywhere None false none = of_data ranges (has_page ranges 0) refl (none_passes (λ (r : RangeData). r.page == 1) ranges none)
