-- The places of a good map have no word in common.
use Rattle.std.proofs.Common.{◌≡◌, ℕ, zero, suc, ◌+◌, ◌<◌, ◌≤◌, Bool, true, false, cond, List, [], ◌∷◌, ◌++◌, reverse, Some, find, All, Ok, refl, sym, subst, ◌∙◌, arith}
use Rattle.std.specs.Str.{bytes_eq}
use Rattle.std.proofs.lemmas.Bool.Decides.{nat_tests}
use Rattle.std.proofs.lemmas.List.{reverse-reverse, reverse-append}
use Rattle.std.proofs.lemmas.List.Elements.{All-nil, All-head, All-tail, All-push}
use Rattle.std.proofs.lemmas.List.Folds.{list_any_at}
use Rattle.std.proofs.lemmas.Slice.Eq.{bytes_eq-Decides}
use Rattle.c25_meaning_linking.specs.Command.{RangeData, TargetData, Anywhere, InRange, At, Pairwise}
use Rattle.c25_meaning_linking.specs.Place.{Place, Covers, BlockData, place_named}
use Rattle.c25_meaning_linking.specs.GoodMap.{Request, has_word, is_taken, IsFree, IsBase, IsBaseIn, Stands, Stand, ArePlaced, usable, page_for}

-- ---- a word of a place

pub record IsWord (page word : ℕ) (p : Place) : Type 0 where
  pub page_is : p.page ≡ page
  pub from : p.base ≤ word
  pub upto : word < p.base + p.size

pub word_of : (page word : ℕ) (p : Place) → has_word page word p ≡ true → IsWord page word p
word_of page word p h = record { page_is = grind (arith, nat_tests); from = grind (arith, nat_tests); upto = grind (arith, nat_tests) }

pub is_word : (page word : ℕ) (p : Place) → p.page ≡ page → p.base ≤ word → word < p.base + p.size → has_word page word p ≡ true
is_word page word p same from upto = grind (arith, nat_tests)

-- ---- what stands at a base is free there

no_word : (base word : ℕ) → Covers base 0 word → ⊥
no_word base word c = omega (arith, c.from, c.upto)

in_free : (page size : ℕ) (blocks : List BlockData) (first : RangeData) (ranges : List RangeData) (places : List Place) (base : ℕ) → IsBaseIn page size blocks first ranges places (Ok base) → IsFree page base size places
in_free page zero blocks first ranges places base is = λ word c. absurd (no_word base word c)
in_free page (suc n) blocks first ranges places base is = (is.1 (omega arith)).least.fits.free

pub base_free : (target : TargetData) (page size : ℕ) (blocks : List BlockData) (ranges : List RangeData) (places : List Place) (base : ℕ) → IsBase target page size blocks ranges places (Ok base) → IsFree page base size places
base_free target page size blocks [] places base is = absurd cc
base_free Anywhere page size blocks (r ∷ rs) places base is = in_free page size blocks r (r ∷ rs) places base is
base_free (InRange name) page size blocks (r ∷ rs) places base is = in_free page size blocks r (r ∷ rs) places base is
base_free (At address) page size blocks (r ∷ rs) places base is = subst (λ b. IsFree page b size places) (sym is.0) is.2

-- ---- places apart

abbrev pub Apart : Place → Place → Type 0
Apart p q = (page word : ℕ) → has_word page word p ≡ true → has_word page word q ≡ true → ⊥

apart_before : (ranges : List RangeData) (before : List Place) (r : Request) (p : Place) → Stands ranges before r p → All (λ q. Apart q p) before
apart_before ranges before r p s = λ k d lt page word hq hp.
    let w = word_of page word p hp in
    let same : page_for ranges r ≡ page = sym s.page_is ∙ w.page_is in
    let covers : Covers p.base r.size word = record { from = w.from; upto = omega (arith, w.upto, s.size_is) } in
    let free : is_taken (page_for ranges r) before word ≡ false = base_free r.target (page_for ranges r) r.size r.blocks (usable ranges r) before p.base s.base_is word covers in
    let taken : is_taken page before word ≡ true = list_any_at (has_word page word) before k d lt hq in
    let other : is_taken page before word ≡ false = subst (λ n. is_taken n before word ≡ false) same free in
    absurd cc

pairwise_push : (xs : List Place) (y : Place) → Pairwise Apart xs → All (λ q. Apart q y) xs → Pairwise Apart (xs ++ y ∷ [])
pairwise_push [] y pairs apart = (All-nil (Apart y), tt)
pairwise_push (x ∷ xs) y pairs apart =
    (All-push (Apart x) xs y pairs.0 (All-head (λ q. Apart q y) x xs apart), pairwise_push xs y pairs.1 (All-tail (λ q. Apart q y) x xs apart))

reversed_cons : (p : Place) (ps : List Place) → reverse (p ∷ ps) ≡ reverse ps ++ p ∷ []
reversed_cons p ps = reverse-append (p ∷ []) ps

stand_apart : (ranges : List RangeData) (rs : List Request) (ps : List Place) → Stand ranges rs ps → Pairwise Apart (reverse ps)
stand_apart ranges [] [] s = tt
stand_apart ranges [] (p ∷ ps) s = absurd s
stand_apart ranges (r ∷ rs) [] s = absurd s
stand_apart ranges (r ∷ rs) (p ∷ ps) s =
    subst (Pairwise Apart) (sym (reversed_cons p ps)) (pairwise_push (reverse ps) p (stand_apart ranges rs ps s.1) (apart_before ranges (reverse ps) r p s.0))

pub placed_apart : (ranges : List RangeData) (requests : List Request) (places : List Place) → ArePlaced ranges requests places → Pairwise Apart places
placed_apart ranges requests places s = subst (Pairwise Apart) (reverse-reverse places) (stand_apart ranges (reverse requests) (reverse places) s)

-- ---- places of different names

found_in : (P : Place → Type 0) (test : Place → Bool) (ps : List Place) (q : Place) → All P ps → find test ps ≡ Some q → P q
found_in P test [] q all h = absurd cc
found_in P test (x ∷ xs) q all h =
    elim (test x) as (λ b. cond b (Some x) (find test xs) ≡ Some q → P q) [
      | true ↦ λ s. let same : x ≡ q = cc in subst P same (All-head P x xs all)
      | false ↦ λ s. found_in P test xs q (All-tail P x xs all) s
    ] h

turned : (p q : Place) → Apart p q → Apart q p
turned p q a = λ page word hq hp. a page word hp hq

pub named_apart : (a b : List ℕ) (p q : Place) (ps : List Place) → (a ≡ b → ⊥) → Pairwise Apart ps → place_named a ps ≡ Some p → place_named b ps ≡ Some q → Apart p q
named_apart a b p q [] differ pairs ha hb = absurd cc
named_apart a b p q (x ∷ xs) differ pairs ha hb = by_tests (named_apart a b p q xs differ pairs.1) (bytes_eq a x.name) (bytes_eq b x.name) refl refl ha hb where
  by_tests : (place_named a xs ≡ Some p → place_named b xs ≡ Some q → Apart p q) → (t u : Bool) → bytes_eq a x.name ≡ t → bytes_eq b x.name ≡ u → cond t (Some x) (place_named a xs) ≡ Some p → cond u (Some x) (place_named b xs) ≡ Some q → Apart p q
  by_tests later true true e f ga gb = absurd (differ ((bytes_eq-Decides a x.name).0 e ∙ sym ((bytes_eq-Decides b x.name).0 f)))
  by_tests later true false e f ga gb = let same : x ≡ p = cc in subst (λ y. Apart y q) same (found_in (Apart x) (λ y. bytes_eq b y.name) xs q pairs.0 gb)
  by_tests later false true e f ga gb = let same : x ≡ q = cc in turned q p (subst (λ y. Apart y p) same (found_in (Apart x) (λ y. bytes_eq a y.name) xs p pairs.0 ga))
  by_tests later false false e f ga gb = later ga gb
