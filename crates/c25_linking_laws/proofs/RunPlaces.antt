-- The places of a good map that run elsewhere than they are loaded run at words apart.
use Rattle.std.proofs.Common.{◌≡◌, ℕ, ◌+◌, ◌<◌, ◌≤◌, Bool, true, false, ◌&&◌, cond, List, [], ◌∷◌, ◌++◌, reverse, Option, Some, None, All, refl, sym, ap, subst, ◌∙◌, arith}
use Rattle.std.specs.Prelude.{IfSome, nat_le, nat_lt}
use Rattle.std.specs.Option.{option_map_or}
use Rattle.std.specs.Str.{bytes_eq}
use Rattle.std.proofs.lemmas.Bool.Decides.{nat_tests}
use Rattle.std.proofs.lemmas.List.{reverse-reverse, reverse-append}
use Rattle.std.proofs.lemmas.List.Elements.{All-nil, All-head, All-tail, All-push}
use Rattle.std.proofs.lemmas.List.Folds.{list_any_at}
use Rattle.c25_meaning_linking.specs.Command.{CommandData, Pairwise, RangeData}
use Rattle.c25_meaning_linking.specs.GoodMap.{IsGoodMap, Request, RunsAt, Stand, Stands, is_run_at, placings_for, ranges_for, requests, runs_at}
use Rattle.c25_meaning_linking.specs.Place.{Place, place_named}
use Rattle.c25_meaning_linking.proofs.PlaceNames.{same_name}
use Rattle.c25_meaning_objects.specs.Module.{Contents}
use Rattle.c25_linking_laws.proofs.Named.{found_holds}

-- no word is one that both run at
abbrev pub RunApart : Place → Place → Type 0
RunApart p q = (word : ℕ) → runs_at word p ≡ true → runs_at word q ≡ true → ⊥

pub is_run_word : (word run : ℕ) (p : Place) → p.run ≡ Some run → run ≤ word → word < run + p.size → runs_at word p ≡ true
is_run_word word run p e from upto =
    ap (λ (o : Option ℕ). option_map_or (λ r. nat_le r word && nat_lt word (r + p.size)) o false) e ∙ inside
  where
    inside : (nat_le run word && nat_lt word (run + p.size)) ≡ true
    inside = grind (arith, nat_tests, from, upto)

-- a section does not run at words of those before it
runs_free : (ranges : List RangeData) (before : List Place) (r : Request) (size : ℕ) (run : Option ℕ) (word : ℕ) → size ≡ r.size → IfSome run (RunsAt ranges before r)
    → option_map_or (λ a. nat_le a word && nat_lt word (a + size)) run false ≡ true → is_run_at before word ≡ false
runs_free ranges before r size None word sized may at = absurd cc
runs_free ranges before r size (Some run) word sized may at =
    may.free word (record { from = grind (arith, nat_tests, at); upto = let low : word < run + size = grind (arith, nat_tests, at) in omega (arith, low, sized) })

apart_before : (ranges : List RangeData) (before : List Place) (r : Request) (p : Place) → Stands ranges before r p → All (λ q. RunApart q p) before
apart_before ranges before r p s = λ k d lt word there here.
    let free = runs_free ranges before r p.size p.run word s.size_is (subst (λ o. IfSome o (RunsAt ranges before r)) (sym s.run_is) s.runs) here in
    let taken : is_run_at before word ≡ true = list_any_at (runs_at word) before k d lt there in
    absurd cc

pairs_push : (xs : List Place) (y : Place) → Pairwise RunApart xs → All (λ q. RunApart q y) xs → Pairwise RunApart (xs ++ y ∷ [])
pairs_push [] y pairs apart = (All-nil (RunApart y), tt)
pairs_push (x ∷ xs) y pairs apart =
    (All-push (RunApart x) xs y pairs.0 (All-head (λ q. RunApart q y) x xs apart), pairs_push xs y pairs.1 (All-tail (λ q. RunApart q y) x xs apart))

stand_apart : (ranges : List RangeData) (rs : List Request) (ps : List Place) → Stand ranges rs ps → Pairwise RunApart (reverse ps)
stand_apart ranges [] [] s = tt
stand_apart ranges [] (p ∷ ps) s = absurd s
stand_apart ranges (r ∷ rs) [] s = absurd s
stand_apart ranges (r ∷ rs) (p ∷ ps) s =
    subst (Pairwise RunApart) (sym (reverse-append (p ∷ []) ps)) (pairs_push (reverse ps) p (stand_apart ranges rs ps s.1) (apart_before ranges (reverse ps) r p s.0))

pub places_run_apart : (modules : List Contents) (command : CommandData) (places : List Place) → IsGoodMap modules command places → Pairwise RunApart places
places_run_apart modules command places good =
    subst (Pairwise RunApart) (reverse-reverse places) (stand_apart (ranges_for command) (reverse (requests modules (placings_for command))) (reverse places) good)

-- the places of two names run apart
pub named_run_apart : (a b : List ℕ) (p q : Place) (ps : List Place) → (a ≡ b → ⊥) → Pairwise RunApart ps → place_named a ps ≡ Some p → place_named b ps ≡ Some q → RunApart p q
named_run_apart a b p q [] differ pairs ha hb = absurd cc
named_run_apart a b p q (x ∷ xs) differ pairs ha hb = by_tests (named_run_apart a b p q xs differ pairs.1) (bytes_eq a x.name) (bytes_eq b x.name) refl refl ha hb where
  by_tests : (place_named a xs ≡ Some p → place_named b xs ≡ Some q → RunApart p q) → (t u : Bool) → bytes_eq a x.name ≡ t → bytes_eq b x.name ≡ u → cond t (Some x) (place_named a xs) ≡ Some p → cond u (Some x) (place_named b xs) ≡ Some q → RunApart p q
  by_tests later true true e f ga gb = absurd (differ (same_name a x.name e ∙ sym (same_name b x.name f)))
  by_tests later true false e f ga gb = let same : x ≡ p = cc in subst (λ y. RunApart y q) same (found_holds (RunApart x) (λ y. bytes_eq b y.name) xs q pairs.0 gb)
  by_tests later false true e f ga gb =
      let same : x ≡ q = cc in
      let turned : RunApart x p = found_holds (RunApart x) (λ y. bytes_eq a y.name) xs p pairs.0 ga in
      subst (λ y. RunApart p y) same (λ word here there. turned word there here)
  by_tests later false false e f ga gb = later ga gb
