-- Sets of names, and a name more.
use Rattle.std.proofs.Common.{◌≡◌, ℕ, Bool, true, false, ◌&&◌, ◌||◌, eqb, cond, List, [], ◌∷◌, ◌++◌, refl, sym, ap, ◌∙◌, arith}
use Rattle.std.specs.List.{list_any}
use Rattle.std.specs.Str.{bytes_eq}
use Rattle.std.specs.BTreeSet.{BTreeSet, IsEmpty, Updates}
use Rattle.std.specs.Cmp.Lexicographic.{slice_cmp}
use Rattle.std.specs.Ordering.{is_eq, nat_cmp, ordering_then}
use Rattle.std.specs.declared.cmp.Ordering.{Ordering}
use Rattle.std.specs.declared.cmp.Ordering.TheVariants.{Less, Equal, Greater}
use Rattle.std.proofs.lemmas.Bool.Decides.{nat_tests}
use Rattle.std.proofs.lemmas.List.Folds.{list_any-append}
use Rattle.std.proofs.lemmas.Map.Text.{is_eq-slice_cmp}
use Rattle.c25_meaning_linking.specs.Command.{RangeData, PlacingData}
use Rattle.c25_meaning_linking.specs.CommandMemory.{is_range}
use Rattle.c25_meaning_linking.specs.CommandSections.{is_placing}
use Rattle.c25_cmd.specs.Known.{HasNames, HasRangeNames}

joined : (b h : Bool) → cond b true h ≡ (h || (b || false))
joined true true = refl
joined true false = refl
joined false true = refl
joined false false = refl

-- a set that has the names of sections has those of one more, once its name is put in
pub HasNames-push : {K : Type 0} (text : K → List ℕ) (old new : BTreeSet K) (ps : List PlacingData) (key : K) (p : PlacingData) → HasNames text old ps
    → Updates (λ a b. slice_cmp nat_cmp (text a) (text b)) old new key true → p.name ≡ text key → HasNames text new (ps ++ p ∷ [])
HasNames-push text old new ps key p has updates is q =
    let here : is_eq (slice_cmp nat_cmp (text key) (text q)) ≡ bytes_eq p.name (text q) =
    is_eq-slice_cmp (text key) (text q) ∙ ap (λ (name : List ℕ). bytes_eq name (text q)) (sym is) in
    let pushed : list_any (is_placing (text q)) (ps ++ p ∷ []) ≡ (list_any (is_placing (text q)) ps || (bytes_eq p.name (text q) || false)) =
    list_any-append (is_placing (text q)) ps (p ∷ []) in
    updates.0 q ∙ rw (here, has q) (joined (bytes_eq p.name (text q)) (list_any (is_placing (text q)) ps)) ∙ sym pushed

is_eq-ordering_then : (a b : Ordering) → is_eq (ordering_then a b) ≡ (is_eq a && is_eq b)
is_eq-ordering_then Less b = refl
is_eq-ordering_then Equal b = refl
is_eq-ordering_then Greater b = refl

is_eq-nat_cmp : (m n : ℕ) → is_eq (nat_cmp m n) ≡ eqb m n
is_eq-nat_cmp m n = grind (arith, nat_tests)

-- an empty set has those of no ranges
pub HasRangeNames-none : {K : Type 0} (page : K → ℕ) (text : K → List ℕ) (names : BTreeSet K) → IsEmpty names → HasRangeNames page text names []
HasRangeNames-none page text names empty key = rw empty refl

-- a set that has the pages and names of ranges has those of one more, once they are put in
pub HasRangeNames-push : {K : Type 0} (page : K → ℕ) (text : K → List ℕ) (old new : BTreeSet K) (rs : List RangeData) (key : K) (r : RangeData)
    → HasRangeNames page text old rs
    → Updates (λ a b. ordering_then (nat_cmp (page a) (page b)) (slice_cmp nat_cmp (text a) (text b))) old new key true
    → r.page ≡ page key → r.name ≡ text key → HasRangeNames page text new (rs ++ r ∷ [])
HasRangeNames-push page text old new rs key r has updates page_is name_is q =
    let test = is_range (page q) (text q) in
    let named : is_eq (slice_cmp nat_cmp (text key) (text q)) ≡ bytes_eq r.name (text q) =
    is_eq-slice_cmp (text key) (text q) ∙ ap (λ (name : List ℕ). bytes_eq name (text q)) (sym name_is) in
    let paged : is_eq (nat_cmp (page key) (page q)) ≡ eqb r.page (page q) =
    is_eq-nat_cmp (page key) (page q) ∙ ap (λ (n : ℕ). eqb n (page q)) (sym page_is) in
    let here : is_eq (ordering_then (nat_cmp (page key) (page q)) (slice_cmp nat_cmp (text key) (text q))) ≡ test r =
    is_eq-ordering_then (nat_cmp (page key) (page q)) (slice_cmp nat_cmp (text key) (text q)) ∙ rw (paged, named) refl in
    let pushed : list_any test (rs ++ r ∷ []) ≡ (list_any test rs || (test r || false)) = list_any-append test rs (r ∷ []) in
    updates.0 q ∙ rw (here, has q) (joined (test r) (list_any test rs)) ∙ sym pushed
