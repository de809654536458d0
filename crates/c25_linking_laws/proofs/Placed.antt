-- The places of a good map lie within their pages, and those that run elsewhere in block B0.
use Rattle.std.proofs.Common.{◌≡◌, ℕ, ◌+◌, ◌<◌, ◌≤◌, ◌==◌, ◌||◌, Bool, true, false, List, [], ◌∷◌, ◌++◌, reverse, All, Ok, Option, Some, None, sym, subst, arith, inl, inr}
use Rattle.std.specs.Prelude.{IfSome, max, nat_le}
use Rattle.std.specs.List.{list_any}
use Rattle.std.specs.Str.{bytes_eq}
use Rattle.std.proofs.lemmas.Bool.{and_parts, cases_lt, eqb-true, leb-true}
use Rattle.std.proofs.lemmas.List.{reverse-reverse, reverse-append}
use Rattle.std.proofs.lemmas.List.Elements.{All-nil, All-cons, All-head, All-tail, All-same, All-push, All-filter, filter_passes}
use Rattle.c25_meaning_linking.specs.Command.{RangeData, TargetData, Anywhere, InRange, At, CommandData, IsCommand, IsRange}
use Rattle.c25_meaning_linking.specs.GoodMap.{Request, ranges_for, placings_for, requests, page_for, is_usable, usable, is_inside, blocks_fit, IsBase, IsBaseIn, IsBaseAt, RunsAt, Stands, Stand, IsGoodMap}
use Rattle.c25_meaning_objects.specs.Module.{Contents, IsModule, is_section_name}
use Rattle.c25_meaning_linking.specs.Place.{Place, BlockData}
use Rattle.c25_linking_laws.proofs.Ranges.{ranges_are}
use Rattle.c25_linking_laws.proofs.Named.{IsNamedRequest, named_requests}

-- so many words from a base on are within a page
record IsInPage (base size : ℕ) : Type 0 where
  first : base < 65536
  last : base + size ≤ 65536

-- so many words from an address on are words of block B0
pub record IsInB0 (size run : ℕ) : Type 0 where
  pub from : 0xFF00 ≤ run
  pub below : run < 65536
  pub upto : run + size ≤ 65536

-- a place with a name, on one of two pages and within it, which runs there or in block B0
pub record IsGoodPlace (p : Place) : Type 0 where
  pub name : is_section_name p.name ≡ true
  pub page : p.page ≤ 1
  pub first : p.base < 65536
  pub last : p.base + p.size ≤ 65536
  pub run : IfSome p.run (IsInB0 p.size)

-- ---- one section

inside_page : (base size : ℕ) (r : RangeData) → IsRange r → is_inside base size r ≡ true → IsInPage base size
inside_page base size r is e =
    let h = and_parts (nat_le r.origin base) (nat_le (base + max size 1) (r.origin + r.size)) e in
    let low = leb-true (base + max size 1) (r.origin + r.size) h.1 in
    let within = is.within in
    record { first = omega (arith, low, within); last = omega (arith, low, within) }

any_inside : (base size : ℕ) (ranges : List RangeData) → All IsRange ranges → list_any (is_inside base size) ranges ≡ true → IsInPage base size
any_inside base size [] all e = absurd cc
any_inside base size (r ∷ ranges) all e = by_test (any_inside base size ranges (All-tail IsRange r ranges all)) (is_inside base size r) (inside_page base size r (All-head IsRange r ranges all)) e where
  by_test : (list_any (is_inside base size) ranges ≡ true → IsInPage base size) → (t : Bool) → (t ≡ true → IsInPage base size) → (t || list_any (is_inside base size) ranges) ≡ true → IsInPage base size
  by_test later true here g = here g
  by_test later false here g = later g

among : (before : List RangeData) (r : RangeData) (after : List RangeData) → All IsRange (before ++ r ∷ after) → IsRange r
among [] r after all = All-head IsRange r after all
among (x ∷ before) r after all = among before r after (All-tail IsRange x (before ++ r ∷ after) all)

based_in : (page size : ℕ) (blocks : List BlockData) (first : RangeData) (ranges : List RangeData) (places : List Place) (base : ℕ) → IsRange first → All IsRange ranges → IsBaseIn page size blocks first ranges places (Ok base) → IsInPage base size
based_in page size blocks first ranges places base is all h =
    elim (cases_lt 0 size) [
      | inl some ↦
          let f = h.1 some in
          inside_page base size f.range (among f.before f.range f.after (All-same IsRange (f.before ++ f.range ∷ f.after) ranges (sym f.ranges_are) all)) f.least.fits.inside
      | inr none ↦
          let at : base ≡ first.origin = h.0 (omega arith) in
          let words = is.words in
          let within = is.within in
          record { first = omega (arith, at, words, within); last = omega (arith, at, words, within, none) }
    ]

based_at : (address page size : ℕ) (blocks : List BlockData) (ranges : List RangeData) (places : List Place) (base : ℕ) → All IsRange ranges → IsBaseAt address page size blocks ranges places (Ok base) → IsInPage base size
based_at address page size blocks ranges places base all h =
    subst (λ b. IsInPage b size) (sym h.0) (any_inside address size ranges all (and_parts (blocks_fit address blocks) (list_any (is_inside address size) ranges) h.1).1)

based : (target : TargetData) (page size : ℕ) (blocks : List BlockData) (ranges : List RangeData) (places : List Place) (base : ℕ) → All IsRange ranges → IsBase target page size blocks ranges places (Ok base) → IsInPage base size
based Anywhere page size blocks [] places base all h = absurd cc
based (InRange name) page size blocks [] places base all h = absurd cc
based (At address) page size blocks [] places base all h = absurd cc
based Anywhere page size blocks (first ∷ ranges) places base all h = based_in page size blocks first (first ∷ ranges) places base (All-head IsRange first ranges all) all h
based (InRange name) page size blocks (first ∷ ranges) places base all h = based_in page size blocks first (first ∷ ranges) places base (All-head IsRange first ranges all) all h
based (At address) page size blocks (first ∷ ranges) places base all h = based_at address page size blocks (first ∷ ranges) places base all h

page_of_usable : (target : TargetData) (page : ℕ) (r : RangeData) → is_usable target page r ≡ true → r.page ≡ page
page_of_usable Anywhere page r e = eqb-true r.page page e
page_of_usable (InRange name) page r e = eqb-true r.page page (and_parts (r.page == page) (bytes_eq name r.name) e).0
page_of_usable (At address) page r e = eqb-true r.page page e

some_usable : (target : TargetData) (page size : ℕ) (blocks : List BlockData) (ranges : List RangeData) (places : List Place) (base : ℕ) → All IsRange ranges → All (λ r. is_usable target page r ≡ true) ranges → IsBase target page size blocks ranges places (Ok base) → page ≤ 1
some_usable Anywhere page size blocks [] places base all are h = absurd cc
some_usable (InRange name) page size blocks [] places base all are h = absurd cc
some_usable (At address) page size blocks [] places base all are h = absurd cc
some_usable target page size blocks (first ∷ ranges) places base all are h =
    let same = page_of_usable target page first (All-head (λ (r : RangeData). is_usable target page r ≡ true) first ranges are) in
    let low = (All-head IsRange first ranges all).page in
    omega (arith, same, low)

runs_well : (ranges : List RangeData) (before : List Place) (r : Request) (run : Option ℕ) (size : ℕ) → size ≡ r.size → IfSome run (RunsAt ranges before r) → IfSome run (IsInB0 size)
runs_well ranges before r None size sized h = tt
runs_well ranges before r (Some run) size sized h =
    let upto = h.upto in
    let below = h.below in
    record { from = h.from; below = omega (arith, below); upto = omega (arith, upto, sized) }

stands_well : (ranges : List RangeData) (before : List Place) (r : Request) (p : Place) → All IsRange ranges → IsNamedRequest r → Stands ranges before r p → IsGoodPlace p
stands_well ranges before r p all named s =
    let test = is_usable r.target (page_for ranges r) in
    let are : All IsRange (usable ranges r) = All-filter test IsRange ranges all in
    let within = based r.target (page_for ranges r) r.size r.blocks (usable ranges r) before p.base are s.base_is in
    let low : page_for ranges r ≤ 1 = some_usable r.target (page_for ranges r) r.size r.blocks (usable ranges r) before p.base are (filter_passes test ranges) s.base_is in
    let first = within.first in
    let last = within.last in
    let sized = s.size_is in
    let paged = s.page_is in
    record {
      name = subst (λ n. is_section_name n ≡ true) (sym s.name_is) named;
      page = omega (arith, low, paged);
      first = first;
      last = omega (arith, last, sized);
      run = runs_well ranges before r p.run p.size s.size_is (subst (λ o. IfSome o (RunsAt ranges before r)) (sym s.run_is) s.runs);
    }

-- ---- all sections

reversed : {A : Type 0} (P : A → Type 0) (xs : List A) → All P xs → All P (reverse xs)
reversed P [] all = All-nil P
reversed P (x ∷ xs) all =
    All-same P (reverse (x ∷ xs)) (reverse xs ++ x ∷ []) (reverse-append (x ∷ []) xs) (All-push P (reverse xs) x (reversed P xs (All-tail P x xs all)) (All-head P x xs all))

stand_well : (ranges : List RangeData) (rs : List Request) (ps : List Place) → All IsRange ranges → All IsNamedRequest rs → Stand ranges rs ps → All IsGoodPlace ps
stand_well ranges [] [] all named s = All-nil IsGoodPlace
stand_well ranges [] (p ∷ ps) all named s = absurd s
stand_well ranges (r ∷ rs) [] all named s = absurd s
stand_well ranges (r ∷ rs) (p ∷ ps) all named s =
    All-cons IsGoodPlace p ps (stands_well ranges (reverse ps) r p all (All-head IsNamedRequest r rs named) s.0) (stand_well ranges rs ps all (All-tail IsNamedRequest r rs named) s.1)

pub good_places : (modules : List Contents) (command : CommandData) (places : List Place) → All IsModule modules → IsCommand command → IsGoodMap modules command places → All IsGoodPlace places
good_places modules command places are is good =
    let asked = requests modules (placings_for command) in
    let back = stand_well (ranges_for command) (reverse asked) (reverse places) (ranges_are command is) (reversed IsNamedRequest asked (named_requests modules (placings_for command) are)) good in
    All-same IsGoodPlace places (reverse (reverse places)) (sym (reverse-reverse places)) (reversed IsGoodPlace (reverse places) back)
