-- Free words and where sections fit.
use Rattle.std.proofs.Common.{◌≡◌, ℕ, ◌+◌, ◌-◌, ◌%◌, ◌<◌, ◌≤◌, Bool, true, false, ◌&&◌, ◌||◌, ltb, leb, max, List, [], ◌∷◌, ◌++◌, length, get_or, Some, refl, sym, ap, subst, ◌∙◌, arith, ⊎_elim, All, replicate, take, drop, suc, Result}
use Rattle.std.specs.List.{list_any, slice_get}
use Rattle.std.proofs.lemmas.Bool.{cases_lt}
use Rattle.std.proofs.lemmas.Bool.Decides.{nat_tests}
use Rattle.std.proofs.lemmas.List.{get_or-replicate, length-replicate}
use Rattle.std.proofs.lemmas.List.Folds.{list_any-append}
use Rattle.c25_meaning_linking.specs.Command.{RangeData, IsRange, TargetData, Anywhere, InRange, At}
use Rattle.c25_meaning_linking.specs.declared.link_fault.LinkFault.{LinkFault}
use Rattle.std.proofs.lemmas.List.Elements.{All-head, All-tail}
use Rattle.c25_place.specs.Blocks.{KnowsFits}
use Rattle.c25_place.specs.Placement.{AreWords}
use Rattle.c25_place.proofs.Paged.{fits_at}
use Rattle.c25_place.specs.View.{range_view, ranges_view, wanted_view}
use Rattle.c25_place.specs.declared.requests.Wanted.{Wanted}
use Rattle.c25_place.specs.declared.requests.Wanted.TheVariants as wanted
use Rattle.c25_place.specs.declared.ranges.PageRange.{PageRange}
use Rattle.c25_place.proofs.Listed.{split_at}
use Rattle.c25_meaning_linking.specs.GoodMap.{is_inside, is_taken, has_word, IsFree, IsLeastFit, NoneFits, IsFirstFit, IsBase, IsBaseAt, IsBaseIn}
use Rattle.c25_meaning_linking.specs.Place.{Place, Covers, BlockData}
use Rattle.c25_place.specs.Room.{KnowsTaken, AreFree, IsOpen, IsFirstFree, IsRunBefore}

-- ---- inside a range

pub record Within (base size : ℕ) (range : RangeData) : Type 0 where
  pub from : range.origin ≤ base
  pub upto : base + max size 1 ≤ range.origin + range.size

pub within : (base size : ℕ) (range : RangeData) → is_inside base size range ≡ true → Within base size range
within base size range h = record { from = grind (arith, nat_tests); upto = grind (arith, nat_tests) }

pub is_within : (base size : ℕ) (range : RangeData) → range.origin ≤ base → base + max size 1 ≤ range.origin + range.size → is_inside base size range ≡ true
is_within base size range from upto = grind (arith, nat_tests)

-- ---- free words

-- words of a page that are not marked are those that no place has
pub free_of : (taken : List Bool) (page base size : ℕ) (places : List Place) → KnowsTaken taken page places → base + size ≤ 65536 → AreFree taken base size → IsFree page base size places
free_of taken page base size places k le free = λ word c. sym (k.words word (omega (arith, c.upto))) ∙ free word c

pub unmarked : (taken : List Bool) (page base size : ℕ) (places : List Place) → KnowsTaken taken page places → base + size ≤ 65536 → IsFree page base size places → AreFree taken base size
unmarked taken page base size places k le free = λ word c. k.words word (omega (arith, c.upto)) ∙ free word c

-- the least fit of a range
pub least_fit : (taken fits : List Bool) (page size base : ℕ) (blocks : List BlockData) (places : List Place) (range : RangeData) → KnowsTaken taken page places → KnowsFits fits blocks → IsRange range → 0 < size
    → IsFirstFree taken fits range.origin (range.origin + range.size) size base → IsLeastFit page size blocks range places base
least_fit taken fits page size base blocks places range k paged is some f = record {
  fits = record {
    inside = is_within base size range f.from (omega (arith, f.upto));
    paged = sym (fits_at fits blocks base paged) ∙ f.is_open.paged;
    free = free_of taken page base size places k (omega (arith, f.upto, is.within)) f.is_open.free;
  };
  least = λ other at.
      let w = within other size range at.inside in
      f.least other w.from (record { free = unmarked taken page other size places k (omega (arith, w.upto, is.within)) at.free; paged = fits_at fits blocks other paged ∙ at.paged });
}

pub none_fits : (taken fits : List Bool) (page size : ℕ) (blocks : List BlockData) (places : List Place) (range : RangeData) → KnowsTaken taken page places → KnowsFits fits blocks → IsRange range → 0 < size
    → ((base : ℕ) → range.origin ≤ base → base + size ≤ range.origin + range.size → ¬ IsOpen taken fits base size) → NoneFits page size blocks places range
none_fits taken fits page size blocks places range k paged is some none = λ base at.
    let w = within base size range at.inside in
    none base w.from (omega (arith, w.upto)) (record { free = unmarked taken page base size places k (omega (arith, w.upto, is.within)) at.free; paged = fits_at fits blocks base paged ∙ at.paged })

-- ---- a run of free words

no_word : (base word : ℕ) → Covers base 0 word → ⊥
no_word base word c = omega (arith, c.from, c.upto)

pub run_none : (taken fits : List Bool) (start size : ℕ) → 0 < size → IsRunBefore taken fits start size start 0
run_none taken fits start size some = record {
  from = omega arith;
  free = λ other le lt. absurd (omega arith);
  longest = λ other from free. omega arith;
  none = λ other from is. omega arith;
}

-- a marked word ends the run
pub run_taken : (taken fits : List Bool) (start size word run : ℕ) → 0 < size → start ≤ word → get_or taken word false ≡ true → IsRunBefore taken fits start size word run → IsRunBefore taken fits start size (word + 1) 0
run_taken taken fits start size word run some from marked r = record {
  from = omega arith;
  free = λ other le lt. absurd (omega arith);
  longest = λ other ge free.
      ⊎_elim (λ lt. omega arith) (λ le. absurd (it_is_not (free word (record { from = le; upto = omega arith }))))
      (cases_lt word other);
  none = λ other ge is.
      ⊎_elim (λ lt. lt) (λ le.
      let before = r.none other ge is in
      absurd (it_is_not (is.free word (record { from = omega (arith, le, some); upto = before }))))
      (cases_lt (word + 1) (other + size));
}
  where
    it_is_not : get_or taken word false ≡ false → ⊥
    it_is_not clear = absurd cc

-- what a free word adds to the run, where no run of the size ends with it that fits
pub run_free : (taken fits : List Bool) (start size word run : ℕ) → 0 < size → get_or taken word false ≡ false → ((base : ℕ) → base + size ≡ word + 1 → size ≤ run + 1 → get_or fits (base % 128) false ≡ true → ⊥) → IsRunBefore taken fits start size word run
    → IsRunBefore taken fits start size (word + 1) (run + 1)
run_free taken fits start size word run some clear not_there r = record {
  from = omega (arith, r.from);
  free = λ other le lt. ⊎_elim (λ before. r.free other (omega arith) before) (λ ge. let same : other ≡ word = omega arith in subst (λ n. get_or taken n false ≡ false) (sym same) clear) (cases_lt other word);
  longest = λ other ge free.
      let before = r.longest other ge (λ w c. free w (record { from = c.from; upto = omega (arith, c.from, c.upto) })) in
      omega (arith, before);
  none = λ other ge is.
      ⊎_elim (λ lt. lt) (λ le.
      let before = r.none other ge is in
      let same : other + size ≡ word + 1 = omega (arith, le, before) in
      let run_is = r.longest other ge (λ w c. is.free w (record { from = c.from; upto = omega (arith, c.from, c.upto, same) })) in
      absurd (not_there other same (omega (arith, same, run_is)) is.paged))
      (cases_lt (word + 1) (other + size));
}

-- fewer than the size
pub run_short : (taken fits : List Bool) (start size word run : ℕ) → 0 < size → get_or taken word false ≡ false → run + 1 < size → IsRunBefore taken fits start size word run → IsRunBefore taken fits start size (word + 1) (run + 1)
run_short taken fits start size word run some clear fewer r = run_free taken fits start size word run some clear (λ base is le paged. absurd (omega (arith, fewer, le))) r

-- as many, and its place does not fit
pub run_unpaged : (taken fits : List Bool) (start size word run base : ℕ) → 0 < size → get_or taken word false ≡ false → base ≡ word + 1 - size → get_or fits (base % 128) false ≡ false → IsRunBefore taken fits start size word run → IsRunBefore taken fits start size (word + 1) (run + 1)
run_unpaged taken fits start size word run base some clear is off r = run_free taken fits start size word run some clear not_there r where
  not_there : (other : ℕ) → other + size ≡ word + 1 → size ≤ run + 1 → get_or fits (other % 128) false ≡ true → ⊥
  not_there other same le on =
      let at : other ≡ base = omega (arith, same, is) in
      let off_there : get_or fits (other % 128) false ≡ false = ap (λ n. get_or fits (n % 128) false) at ∙ off in
      absurd cc

-- a run of the size that fits
pub run_found : (taken fits : List Bool) (start end size word run base : ℕ) → get_or taken word false ≡ false → size ≤ run + 1 → word < end → base ≡ word + 1 - size → get_or fits (base % 128) false ≡ true → IsRunBefore taken fits start size word run → IsFirstFree taken fits start end size base
run_found taken fits start end size word run base clear full lt is paged r = record {
  from = omega (arith, r.from);
  upto = omega (arith, r.from);
  is_open = record {
    free = λ other c. ⊎_elim (λ before. r.free other (omega (arith, c.from, r.from)) before) (λ ge. let same : other ≡ word = omega (arith, c.upto, r.from) in subst (λ n. get_or taken n false ≡ false) (sym same) clear) (cases_lt other word);
    paged = paged;
  };
  least = λ other ge at. omega (arith, r.none other ge at, r.from);
}

-- none up to the end
pub run_ended : (taken fits : List Bool) (start end size word run : ℕ) → end ≤ word → IsRunBefore taken fits start size word run → (base : ℕ) → start ≤ base → base + size ≤ end → ¬ IsOpen taken fits base size
run_ended taken fits start end size word run le r = λ base from upto at. omega (arith, r.none base from at)

-- ---- marks of places

pub taken_none : (taken : List Bool) (page : ℕ) → taken ≡ replicate 65536 false → KnowsTaken taken page []
taken_none taken page e = record {
  sized = ap length e ∙ length-replicate 65536 false;
  words = λ word lt. ap (λ (t : List Bool). get_or t word false) e ∙ get_or-replicate 65536 word false false lt;
}

or_false : (b : Bool) → (b || false) ≡ b
or_false true = refl
or_false false = refl

same_word : (page word base size : ℕ) (p : Place) → p.page ≡ page → p.base ≡ base → p.size ≡ size → (leb base word && ltb word (base + size)) ≡ has_word page word p
same_word page word base size p a b c = grind (arith, nat_tests)

-- a place more on its page
pub taken_more : (old new : List Bool) (page base size : ℕ) (places : List Place) (p : Place) → KnowsTaken old page places → length new ≡ length old
    → ((k : ℕ) → get_or new k false ≡ (get_or old k false || (leb base k && ltb k (base + size)))) → p.page ≡ page → p.base ≡ base → p.size ≡ size → KnowsTaken new page (places ++ p ∷ [])
taken_more old new page base size places p k sized marks a b c = record {
  sized = sized ∙ k.sized;
  words = λ word lt.
      marks word ∙ ap (λ t. t || (leb base word && ltb word (base + size))) (k.words word lt) ∙ ap (λ t. is_taken page places word || t) (same_word page word base size p a b c ∙ sym (or_false (has_word page word p)))
      ∙ sym (list_any-append (has_word page word) places (p ∷ []));
}

elsewhere : (page word : ℕ) (p : Place) → (p.page ≡ page → ⊥) → has_word page word p ≡ false
elsewhere page word p differ = grind (arith, nat_tests, differ)

-- and on the other page
pub taken_same : (taken : List Bool) (page : ℕ) (places : List Place) (p : Place) → KnowsTaken taken page places → (p.page ≡ page → ⊥) → KnowsTaken taken page (places ++ p ∷ [])
taken_same taken page places p k differ = record {
  sized = k.sized;
  words = λ word lt.
      k.words word lt ∙ sym (or_false (is_taken page places word)) ∙ ap (λ t. is_taken page places word || t) (sym (or_false (has_word page word p) ∙ elsewhere page word p differ))
      ∙ sym (list_any-append (has_word page word) places (p ∷ []));
}

-- ---- among ranges

pub inside_words : (base size : ℕ) (ranges : List RangeData) → All IsRange ranges → list_any (is_inside base size) ranges ≡ true → AreWords size base
inside_words base size [] all h = absurd cc
inside_words base size (r ∷ ranges) all h = by_test (inside_words base size ranges (All-tail IsRange r ranges all)) (is_inside base size r) refl h where
  by_test : (list_any (is_inside base size) ranges ≡ true → AreWords size base) → (t : Bool) → is_inside base size r ≡ t → (t || list_any (is_inside base size) ranges) ≡ true → AreWords size base
  by_test later true e g =
      let w = within base size r e in
      let is = All-head IsRange r ranges all in
      record { first = omega (arith, w.upto, is.within); last = omega (arith, w.upto, is.within) }
  by_test later false e g = later g

pub least_words : (taken fits : List Bool) (size base : ℕ) (range : RangeData) → IsRange range → 0 < size → IsFirstFree taken fits range.origin (range.origin + range.size) size base → AreWords size base
least_words taken fits size base range is some f = record { first = omega (arith, f.upto, is.within); last = omega (arith, f.upto, is.within) }

pub origin_words : (size : ℕ) (range : RangeData) → IsRange range → size ≡ 0 → AreWords size range.origin
origin_words size range is none = record { first = omega (arith, is.words, is.within); last = omega (arith, is.words, is.within) }

pub first_fit_is : (page size base : ℕ) (blocks : List BlockData) (ranges : List PageRange) (i : ℕ) (d : PageRange) (places : List Place) → i < length ranges → All (NoneFits page size blocks places) (ranges_view (take i ranges))
    → IsLeastFit page size blocks (range_view (get_or ranges i d)) places base → IsFirstFit page size blocks (ranges_view ranges) places base
first_fit_is page size base blocks ranges i d places lt none fit = record {
  before = ranges_view (take i ranges);
  range = range_view (get_or ranges i d);
  after = ranges_view (drop (suc i) ranges);
  ranges_are = split_at range_view ranges i d lt;
  none_before = none;
  least = fit;
}

-- ---- by the place that is wanted

pub based_at : (page size address : ℕ) (blocks : List BlockData) (w : TargetData) (ranges : List RangeData) (places : List Place) (answer : Result ℕ LinkFault) → w ≡ At address → 0 < length ranges
    → IsBaseAt address page size blocks ranges places answer → IsBase w page size blocks ranges places answer
based_at page size address blocks w [] places answer is some h = absurd (omega (arith, some))
based_at page size address blocks w (r ∷ ranges) places answer is some h = subst (λ x. IsBase x page size blocks (r ∷ ranges) places answer) (sym is) h

pub based_in : (page size : ℕ) (blocks : List BlockData) (w : TargetData) (first : RangeData) (ranges : List RangeData) (places : List Place) (answer : Result ℕ LinkFault) → ((address : ℕ) → w ≡ At address → ⊥) → first ∷ [] ≡ take 1 ranges
    → IsBaseIn page size blocks first ranges places answer → IsBase w page size blocks ranges places answer
based_in page size blocks w first [] places answer other is h = absurd cc
based_in page size blocks Anywhere first (r ∷ ranges) places answer other is h = let same : first ≡ r = cc in subst (λ x. IsBaseIn page size blocks x (r ∷ ranges) places answer) same h
based_in page size blocks (InRange name) first (r ∷ ranges) places answer other is h = let same : first ≡ r = cc in subst (λ x. IsBaseIn page size blocks x (r ∷ ranges) places answer) same h
based_in page size blocks (At address) first (r ∷ ranges) places answer other is h = absurd (other address refl)

-- the first of these ranges
pub record IsFirst (ranges : List PageRange) (first : PageRange) : Type 0 where
  pub some : 0 < length (ranges_view ranges)
  pub only : range_view first ∷ [] ≡ take 1 (ranges_view ranges)
  pub is : All IsRange (ranges_view ranges) → IsRange (range_view first)

pub is_first : (ranges : List PageRange) (first : PageRange) → Some first ≡ slice_get ranges 0 → IsFirst ranges first
is_first [] first e = absurd cc
is_first (r ∷ ranges) first e =
    let same : first ≡ r = cc in
    record {
      some = omega arith;
      only = ap (λ (x : PageRange). range_view x ∷ []) same;
      is = λ all. subst (λ (x : PageRange). IsRange (range_view x)) (sym same) (All-head IsRange (range_view r) (ranges_view ranges) all);
    }

pub not_at : (w : Wanted) → ((x : ℕ) → w ≡ wanted.At x → ⊥) → (address : ℕ) → wanted_view w ≡ At address → ⊥
not_at wanted.Anywhere h a e = absurd cc
not_at (wanted.InRange name) h a e = absurd cc
not_at (wanted.At x) h a e = h x refl
