-- The marks of a program, which share no word.
use Rattle.std.proofs.Common.{◌≡◌, ℕ, zero, suc, ◌+◌, ◌-◌, ◌<◌, ◌≤◌, Bool, true, false, ◌&&◌, ◌||◌, not, cond, eqb, eqb-true, leb, max, List, [], ◌∷◌, ◌++◌, length, get_or, take, map, filter, Option, Some, None, refl, sym, ap, subst, ◌∙◌, arith, inl, inr, ◌⊎◌, ⊎_elim, All, append_assoc}
use borrow.Author.Tests.{eqb-false}
use Rattle.std.specs.List.{slice_get, swap}
use Rattle.std.specs.Prelude.{◌==◌, IfSome, IfOk, Result, Ok, Err, is_some, unwrap_or}
use Rattle.std.specs.List.Sorted.{IsPermutation, IsNonDecreasingBy}
use Rattle.std.specs.Option.{option_map_or}
use Rattle.std.proofs.Math.Seq.{get_or-append_seam, take-append_seam}
use Rattle.std.proofs.lemmas.Bool.{cases_lt}
use Rattle.std.proofs.lemmas.Bool.Decides.{nat_tests}
use Rattle.std.proofs.lemmas.List.{append-nil, length-append, take_more, map-append}
use Rattle.std.proofs.lemmas.List.Edits.{Swapped, swapped_from_swap, length-swap}
use Rattle.std.proofs.lemmas.List.Elements.{All-nil, All-cons, All-head, All-tail, All-append, All-filter, All-weaker, filter-append}
use Rattle.std.proofs.lemmas.List.Sorted.{IsPermutation-keeps, All-permutation}
use Rattle.std.proofs.lemmas.Option.{slice_get-get_or}
use Rattle.c25_meaning_linking.specs.Command.{Pairwise}
use Rattle.c25_meaning_linking.specs.Linking.{HasMarks}
use Rattle.c25_meaning_image.specs.Marks.{fit_from, fits_behind}
use Rattle.c25_meaning_objects.specs.Module.{SectionBody, Uninitialised, Initialised, SectionData, Contents, is_module, body_size, body_words, words_at, mark_fits, mark_after, is_from, last_of, each_fits, lists_fit, has_sections}
use Rattle.c25_meaning_linking.specs.Place.{Place, IsPart, LiesIn, base_of, page_of, part_base, part_run, run_base, run_base_of, size_of_parts, by_modules}
use Rattle.c25_meaning_linking.specs.Words.{section_base, section_page, section_run, section_runs_elsewhere, placed_mark, placed_run_mark, is_copied, is_on_program, is_run_in_place, module_marks, program_marks}
use Rattle.c25_meaning_image.specs.declared.mark.Mark.{Mark}
use Rattle.c25_meaning_image.specs.declared.mark.RunMark.{RunMark}
use Rattle.c25_meaning_objects.specs.declared.object.ModuleMark.{ModuleMark}
use Rattle.c25_link.specs.Bases.{HasRoom}
use Rattle.c25_link.specs.Layout.{AreModules, HasOnePart}
use Rattle.c25_link.specs.declared.bases.PartBase.{PartBase}

-- ---- marks that lie in parts

-- one ends before the other begins
abbrev pub Disjoint : Mark → Mark → Type 0
Disjoint a b = (a.address + a.size ≤ b.address) ⊎ (b.address + b.size ≤ a.address)

-- the mark lies in a part of a module on page 0
pub record IsPlaced (modules : List Contents) (places : List Place) (number index : ℕ) (a : Mark) : Type 0 where
  pub owner : Contents
  pub section : SectionData
  pub part : IsPart modules number index owner section
  pub page : page_of section.name places ≡ 0
  pub from : part_base modules places number section.name ≤ a.address
  pub upto : a.address + a.size ≤ part_base modules places number section.name + body_size section.body
  pub some : 1 ≤ a.size
  pub few : a.size ≤ 2

word_in : (modules : List Contents) (places : List Place) (number index word : ℕ) (a : Mark) (p : IsPlaced modules places number index a) → a.address ≤ word → word < a.address + a.size → LiesIn modules places number p.section 0 word
word_in modules places number index word a p from upto = record { page_is = sym p.page; covers = record { from = omega (arith, p.from); upto = omega (arith, p.upto) } }

apart : (modules : List Contents) (places : List Place) (number other index another : ℕ) (a b : Mark) (p : IsPlaced modules places number index a) (q : IsPlaced modules places other another b) → HasOnePart modules places → ((number ≡ other) × (index ≡ another) → ⊥) → Disjoint a b
apart modules places number other index another a b p q one differ =
    ⊎_elim (λ lt. ⊎_elim (λ gt.
    let word = max a.address b.address in
    let here = word_in modules places number index word a p (omega arith) (omega (arith, p.some, q.some, lt, gt)) in
    let there = word_in modules places other another word b q (omega arith) (omega (arith, p.some, q.some, lt, gt)) in
    absurd (differ (one number other index another 0 word p.owner q.owner p.section q.section p.part q.part here there)))
    (λ le. inl le) (cases_lt b.address (a.address + a.size)))
    (λ le. inr le) (cases_lt a.address (b.address + b.size))

-- ---- marks of one module

both : (a b : Bool) → (a && b) ≡ true → (a ≡ true) × (b ≡ true)
both true b h = (refl, h)
both false b h = absurd cc

-- one stands before the other
abbrev pub Before : ModuleMark → ModuleMark → Type 0
Before x y = (x.section < y.section) ⊎ ((x.section ≡ y.section) × (x.offset + x.size ≤ y.offset))

pub record IsGood (sections : List SectionData) (x : ModuleMark) : Type 0 where
  pub some : 1 ≤ x.size
  pub few : x.size ≤ 2
  pub within : x.offset + x.size ≤ length (words_at sections x.section)

good : (sections : List SectionData) (before : List ModuleMark) (x : ModuleMark) → mark_fits sections before x ≡ true → IsGood sections x
good sections before x h =
    let front = both _ (mark_after (last_of before) x) h in
    let sized = both (eqb x.size 1 || eqb x.size 2) (leb (x.offset + x.size) (length (words_at sections x.section))) front.0 in
    record { some = grind (arith, nat_tests, sized.0); few = grind (arith, nat_tests, sized.0); within = grind (arith, nat_tests, sized.1) }

last_pushed : (before : List ModuleMark) (x : ModuleMark) → last_of (before ++ x ∷ []) ≡ Some x
last_pushed before x =
    let size : length (before ++ x ∷ []) ≡ length before + 1 = length-append before (x ∷ []) in
    let place : length (before ++ x ∷ []) - 1 ≡ length before = omega arith in
    ap (slice_get (before ++ x ∷ [])) place ∙ slice_get-get_or (before ++ x ∷ []) (length before) x (omega arith) ∙ ap Some (get_or-append_seam before x [] x)

behind : (sections : List SectionData) (before : List ModuleMark) (x y : ModuleMark) → mark_fits sections (before ++ x ∷ []) y ≡ true → Before x y
behind sections before x y h =
    let after = both _ (mark_after (last_of (before ++ x ∷ [])) y) h in
    let is : is_from x.section (x.offset + x.size) y.section y.offset ≡ true = subst (λ o. mark_after o y ≡ true) (last_pushed before x) after.1 in
    ⊎_elim (λ lt. inl lt) (λ ge. inr (grind (arith, nat_tests, is), grind (arith, nat_tests, is))) (cases_lt x.section y.section)

before_all : (x y z : ModuleMark) → Before x y → Before y z → Before x z
before_all x y z p q =
    ⊎_elim (λ lt. ⊎_elim (λ lt2. inl (omega (arith, lt, lt2))) (λ same. inl (omega (arith, lt, same.0))) q) (λ same. ⊎_elim (λ lt2. inl (omega (arith, same.0, lt2))) (λ same2. inr (omega (arith, same.0, same2.0), omega (arith, same.1, same2.1))) q) p

pub record Rising (sections : List SectionData) (ms : List ModuleMark) : Type 0 where
  pub good : All (IsGood sections) ms
  pub pairs : Pairwise Before ms

rising_after : (sections : List SectionData) (before : List ModuleMark) (x : ModuleMark) (ms : List ModuleMark) → each_fits (mark_fits sections) (before ++ x ∷ []) ms ≡ true → All (Before x) ms × Rising sections ms
rising_after sections before x [] h = (All-nil (Before x), record { good = All-nil (IsGood sections); pairs = tt })
rising_after sections before x (y ∷ ys) h =
    let g = both (mark_fits sections (before ++ x ∷ []) y) (each_fits (mark_fits sections) ((before ++ x ∷ []) ++ y ∷ []) ys) h in
    let rest = rising_after sections (before ++ x ∷ []) y ys g.1 in
    let first = behind sections before x y g.0 in (
      All-cons (Before x) y ys first (All-weaker (Before y) (Before x) (λ z q. before_all x y z first q) ys rest.0),
      record { good = All-cons (IsGood sections) y ys (good sections (before ++ x ∷ []) y g.0) rest.1.good; pairs = (rest.0, rest.1.pairs) },
    )

pub rising : (sections : List SectionData) (ms : List ModuleMark) → each_fits (mark_fits sections) [] ms ≡ true → Rising sections ms
rising sections [] h = record { good = All-nil (IsGood sections); pairs = tt }
rising sections (x ∷ ms) h =
    let g = both (mark_fits sections [] x) (each_fits (mark_fits sections) (x ∷ []) ms) h in
    let rest = rising_after sections [] x ms g.1 in
    record { good = All-cons (IsGood sections) x ms (good sections [] x g.0) rest.1.good; pairs = (rest.0, rest.1.pairs) }

pub marks_of_module : (c : Contents) → is_module c ≡ true → each_fits (mark_fits c.sections) [] c.marks ≡ true
marks_of_module c h = (both _ _ (both _ _ (both (has_sections c) (lists_fit c) h).1).1).0

-- a mark of a module where its section stands
words_within : (b : SectionBody) → length (body_words b) ≤ body_size b
words_within (Uninitialised size) = omega arith
words_within (Initialised words) = omega arith

-- the words of a section, if there is one
abbrev words_of : Option SectionData → List ℕ
words_of o = elim o [ None ↦ [] | Some s ↦ body_words s.body ]

placed_of : (modules : List Contents) (places : List Place) (number : ℕ) (m : Contents) (x : ModuleMark) → slice_get modules number ≡ Some m → IsGood m.sections x → section_page places m x.section ≡ 0 → IsPlaced modules places number x.section (placed_mark modules places number m x)
placed_of modules places number m x is g on = by_section (slice_get m.sections x.section) refl where
  by_section : (o : Option SectionData) → slice_get m.sections x.section ≡ o → IsPlaced modules places number x.section (placed_mark modules places number m x)
  by_section None e =
      let none : length (words_at m.sections x.section) ≡ 0 = ap (λ (o : Option SectionData). length (words_of o)) e in
      absurd (omega (arith, none, g.within, g.some))
  by_section (Some s) e =
      let base : section_base modules places number m x.section ≡ part_base modules places number s.name = ap (λ (o : Option SectionData). option_map_or (λ t. part_base modules places number t.name) o 0) e in
      let page : section_page places m x.section ≡ page_of s.name places = ap (λ (o : Option SectionData). option_map_or (λ t. page_of t.name places) o 0) e in
      let words : length (words_at m.sections x.section) ≡ length (body_words s.body) = ap (λ (o : Option SectionData). length (words_of o)) e in
      record {
        owner = m;
        section = s;
        part = record { owner_is = is; section_is = e };
        page = sym page ∙ on;
        from = omega (arith, base);
        upto = omega (arith, base, g.within, words, words_within s.body);
        some = g.some;
        few = g.few;
      }

disjoint : (modules : List Contents) (places : List Place) (number : ℕ) (m : Contents) (x y : ModuleMark) → slice_get modules number ≡ Some m → HasOnePart modules places → IsGood m.sections x → IsGood m.sections y
    → section_page places m x.section ≡ 0 → section_page places m y.section ≡ 0 → Before x y → Disjoint (placed_mark modules places number m x) (placed_mark modules places number m y)
disjoint modules places number m x y is one g h on on_2 before =
    ⊎_elim (λ lt. apart modules places number number x.section y.section (placed_mark modules places number m x) (placed_mark modules places number m y) (placed_of modules places number m x is g on) (placed_of modules places number m y is h on_2) one (λ same. let e : x.section ≡ y.section = same.1 in omega (arith, e, lt)))
    (λ p. let base : section_base modules places number m x.section ≡ section_base modules places number m y.section = ap (section_base modules places number m) p.0 in
    inl (let z : section_base modules places number m x.section + x.offset + x.size ≤ section_base modules places number m y.section + y.offset = omega (arith, base, p.1) in z))
    before

on_page : (places : List Place) (m : Contents) (x : ModuleMark) → is_on_program places m x ≡ true → section_page places m x.section ≡ 0
on_page places m x h = eqb-true (section_page places m x.section) 0 h

-- the marks of a module after one of its marks
disjoint_all : (modules : List Contents) (places : List Place) (number : ℕ) (m : Contents) (x : ModuleMark) (xs : List ModuleMark) → slice_get modules number ≡ Some m → HasOnePart modules places → IsGood m.sections x → section_page places m x.section ≡ 0
    → All (IsGood m.sections) xs → All (Before x) xs → All (Disjoint (placed_mark modules places number m x)) (map (placed_mark modules places number m) (filter (is_on_program places m) xs))
disjoint_all modules places number m x [] is one g on goods before = All-nil (Disjoint (placed_mark modules places number m x))
disjoint_all modules places number m x (y ∷ ys) is one g on goods before =
    by_test (disjoint_all modules places number m x ys is one g on (All-tail (IsGood m.sections) y ys goods) (All-tail (Before x) y ys before)) (is_on_program places m y) refl
  where
    by_test : All (Disjoint (placed_mark modules places number m x)) (map (placed_mark modules places number m) (filter (is_on_program places m) ys)) → (t : Bool) → is_on_program places m y ≡ t
        → All (Disjoint (placed_mark modules places number m x)) (map (placed_mark modules places number m) (cond t (y ∷ filter (is_on_program places m) ys) (filter (is_on_program places m) ys)))
    by_test rest true e = All-cons (Disjoint (placed_mark modules places number m x)) (placed_mark modules places number m y) (map (placed_mark modules places number m) (filter (is_on_program places m) ys))
        (disjoint modules places number m x y is one g (All-head (IsGood m.sections) y ys goods) on (on_page places m y e) (All-head (Before x) y ys before)) rest
    by_test rest false e = rest

-- a mark in a part of the module of this number
pub record PlacedIn (modules : List Contents) (places : List Place) (number : ℕ) (a : Mark) : Type 0 where
  pub index : ℕ
  pub placed : IsPlaced modules places number index a

-- marks of one module no two of which share a word
pub record AreOfModule (modules : List Contents) (places : List Place) (number : ℕ) (own : List Mark) : Type 0 where
  pub pairs : Pairwise Disjoint own
  pub each : All (PlacedIn modules places number) own

-- a mark in a part of a module of this number or a later one
pub record PlacedFrom (modules : List Contents) (places : List Place) (from : ℕ) (a : Mark) : Type 0 where
  pub number : ℕ
  pub index : ℕ
  pub later : from ≤ number
  pub placed : IsPlaced modules places number index a

-- marks no two of which share a word, in parts of modules from a number on
pub record AreApart (modules : List Contents) (places : List Place) (from : ℕ) (own : List Mark) : Type 0 where
  pub pairs : Pairwise Disjoint own
  pub each : All (PlacedFrom modules places from) own

module_apart : (modules : List Contents) (places : List Place) (number : ℕ) (m : Contents) (ms : List ModuleMark) → slice_get modules number ≡ Some m → HasOnePart modules places → All (IsGood m.sections) ms → Pairwise Before ms
    → AreOfModule modules places number (map (placed_mark modules places number m) (filter (is_on_program places m) ms))
module_apart modules places number m [] is one goods pairs = record { pairs = tt; each = All-nil (PlacedIn modules places number) }
module_apart modules places number m (x ∷ xs) is one goods pairs =
    by_test (module_apart modules places number m xs is one (All-tail (IsGood m.sections) x xs goods) pairs.1) (is_on_program places m x) refl
  where
    by_test : AreOfModule modules places number (map (placed_mark modules places number m) (filter (is_on_program places m) xs)) → (t : Bool) → is_on_program places m x ≡ t
        → AreOfModule modules places number (map (placed_mark modules places number m) (cond t (x ∷ filter (is_on_program places m) xs) (filter (is_on_program places m) xs)))
    by_test rest true e =
        let g = All-head (IsGood m.sections) x xs goods in
        let on = on_page places m x e in
        record {
          pairs = (disjoint_all modules places number m x xs is one g on (All-tail (IsGood m.sections) x xs goods) pairs.0, rest.pairs);
          each = All-cons (PlacedIn modules places number) (placed_mark modules places number m x) (map (placed_mark modules places number m) (filter (is_on_program places m) xs))
              (record { index = x.section; placed = placed_of modules places number m x is g on }) rest.each;
        }
    by_test rest false e = rest

pairwise_append : {A : Type 0} (R : A → A → Type 0) (xs ys : List A) → Pairwise R xs → Pairwise R ys → All (λ x. All (R x) ys) xs → Pairwise R (xs ++ ys)
pairwise_append R [] ys p q cross = q
pairwise_append R (x ∷ xs) ys p q cross =
    (All-append (R x) xs ys p.0 (All-head (λ z. All (R z) ys) x xs cross), pairwise_append R xs ys p.1 q (All-tail (λ z. All (R z) ys) x xs cross))

-- marks that stand in a module's order, each where it may
abbrev pub RisingIn : (Contents → List ModuleMark) → Contents → Type 0
RisingIn own m = Rising m.sections (own m)

-- where some marks of each module stand, if they are on page 0
abbrev pub marks_in : List Contents → List Place → (Contents → List ModuleMark) → ℕ → Contents → List Mark
marks_in modules places own number m = map (placed_mark modules places number m) (filter (is_on_program places m) (own m))

modules_apart : (modules : List Contents) (places : List Place) (own : Contents → List ModuleMark) (number : ℕ) (rest : List Contents) → ((k : ℕ) (m : Contents) → slice_get modules k ≡ Some m → RisingIn own m) → HasOnePart modules places
    → ((k : ℕ) (m : Contents) → slice_get rest k ≡ Some m → slice_get modules (number + k) ≡ Some m) → AreApart modules places number (by_modules (marks_in modules places own) number rest)
modules_apart modules places own number [] up one at = record { pairs = tt; each = All-nil (PlacedFrom modules places number) }
modules_apart modules places own number (m ∷ rest) up one at =
    let same : number + 0 ≡ number = omega arith in
    let is : slice_get modules number ≡ Some m = subst (λ n. slice_get modules n ≡ Some m) same (at 0 m refl) in
    let rises = up number m is in
    let here = module_apart modules places number m (own m) is one rises.good rises.pairs in
    let next = modules_apart modules places own (number + 1) rest up one (λ k o h. let z : number + suc k ≡ (number + 1) + k = omega arith in subst (λ n. slice_get modules n ≡ Some o) z (at (suc k) o h)) in
    let mine = marks_in modules places own number m in
    let others = by_modules (marks_in modules places own) (number + 1) rest in
    record {
      pairs = pairwise_append Disjoint mine others here.pairs next.pairs (λ i d lt j e below.
          let p = next.each j e below in
          let q = here.each i d lt in
          apart modules places number p.number q.index p.index (get_or mine i d) (get_or others j e) q.placed p.placed one (λ same. omega (arith, same.0, p.later)));
      each = All-append (PlacedFrom modules places number) mine others
          (All-weaker (PlacedIn modules places number) (PlacedFrom modules places number) (λ a q. record { number = number; index = q.index; later = omega arith; placed = q.placed }) mine here.each)
          (All-weaker (PlacedFrom modules places (number + 1)) (PlacedFrom modules places number)
          (λ a p. record { number = p.number; index = p.index; later = omega (arith, p.later); placed = p.placed }) others next.each);
    }

-- ---- marks in order

-- a mark of one or two words below 65,536
pub record IsSmall (a : Mark) : Type 0 where
  pub some : 1 ≤ a.size
  pub few : a.size ≤ 2
  pub end : a.address + a.size ≤ 65536

small : (modules : List Contents) (places : List Place) (a : Mark) → HasRoom modules places → PlacedFrom modules places 0 a → IsSmall a
small modules places a room p =
    let r = room p.number p.index p.placed.owner p.placed.section p.placed.part in
    record { some = p.placed.some; few = p.placed.few; end = omega (arith, r.within, p.placed.upto) }

-- any two marks at different places are disjoint
abbrev AllDisjoint : List Mark → Type 0
AllDisjoint own = (i j : ℕ) (d : Mark) → i < length own → j < length own → (i ≡ j → ⊥) → Disjoint (get_or own i d) (get_or own j d)

flipped : (a b : Mark) → Disjoint a b → Disjoint b a
flipped a b h = ⊎_elim (λ le. inr le) (λ le. inl le) h

pairs_at : (own : List Mark) → Pairwise Disjoint own → (i j : ℕ) (d : Mark) → i < j → j < length own → Disjoint (get_or own i d) (get_or own j d)
pairs_at [] p i j d lt below = absurd (omega arith)
pairs_at (x ∷ xs) p zero zero d lt below = absurd (omega arith)
pairs_at (x ∷ xs) p zero (suc j) d lt below = p.0 j d (omega arith)
pairs_at (x ∷ xs) p (suc i) zero d lt below = absurd (omega arith)
pairs_at (x ∷ xs) p (suc i) (suc j) d lt below = pairs_at xs p.1 i j d (omega arith) (omega arith)

all_disjoint : (own : List Mark) → Pairwise Disjoint own → AllDisjoint own
all_disjoint own p i j d below below_2 differ =
    ⊎_elim (λ lt. pairs_at own p i j d lt below_2) (λ ge. flipped (get_or own j d) (get_or own i d) (pairs_at own p j i d (omega (arith, differ)) below)) (cases_lt i j)

-- they stay so when they are moved
abbrev before_swap : ℕ → ℕ → ℕ → ℕ
before_swap a b i = cond (eqb i a) b (cond (eqb i b) a i)

before_swap-injective : (a b i j : ℕ) → before_swap a b i ≡ before_swap a b j → i ≡ j
before_swap-injective a b i j e = grind (arith, nat_tests)

before_swap-below : (a b i n : ℕ) → a < n → b < n → i < n → before_swap a b i < n
before_swap-below a b i n p q r = grind (arith, nat_tests)

swapped_at : (f g : ℕ → Mark) (a b i : ℕ) → Swapped f g a b → g i ≡ f (before_swap a b i)
swapped_at f g a b i s = by_tests (eqb i a) (eqb i b) refl refl where
  by_tests : (t u : Bool) → t ≡ eqb i a → u ≡ eqb i b → g i ≡ f (cond t b (cond u a i))
  by_tests true u e h = ap g (eqb-true i a (sym e)) ∙ s.0
  by_tests false true e h = ap g (eqb-true i b (sym h)) ∙ s.1
  by_tests false false e h = s.2 i (eqb-false i a (sym e)) (eqb-false i b (sym h))

get_or-swap : (xs : List Mark) (a b i : ℕ) (d : Mark) → a < length xs → b < length xs → get_or (swap xs a b) i d ≡ get_or xs (before_swap a b i) d
get_or-swap xs a b i d p q = swapped_at (λ k. get_or xs k d) (λ k. get_or (swap xs a b) k d) a b i (swapped_from_swap xs (swap xs a b) a b d p q refl)

disjoint-swap : (xs : List Mark) (a b : ℕ) → a < length xs → b < length xs → AllDisjoint xs → AllDisjoint (swap xs a b)
disjoint-swap xs a b p q h = λ i j d r s differ.
    let n : length (swap xs a b) ≡ length xs = length-swap xs a b in
    let i_below : i < length xs = omega arith in
    let j_below : j < length xs = omega arith in
    let apart = h (before_swap a b i) (before_swap a b j) d (before_swap-below a b i (length xs) p q i_below) (before_swap-below a b j (length xs) p q j_below) (λ e. differ (before_swap-injective a b i j e)) in
    subst (λ x. Disjoint x (get_or (swap xs a b) j d)) (sym (get_or-swap xs a b i d p q)) (subst (Disjoint (get_or xs (before_swap a b i) d)) (sym (get_or-swap xs a b j d p q)) apart)

moved : (xs ys : List Mark) → IsPermutation xs ys → AllDisjoint xs → AllDisjoint ys
moved xs ys p h = IsPermutation-keeps xs AllDisjoint h (λ l i j q r k. disjoint-swap l i j q r k) ys p

-- one ends before the next begins
abbrev Ends : Mark → Mark → Type 0
Ends a b = a.address + a.size ≤ b.address

ends : (a b : Mark) → 1 ≤ b.size → a.address ≤ b.address → Disjoint a b → Ends a b
ends a b some le h = ⊎_elim (λ e. e) (λ f. absurd (omega (arith, f, some, le))) h

pairs_from : (R : Mark → Mark → Type 0) (xs : List Mark) → ((i j : ℕ) (d : Mark) → i < j → j < length xs → R (get_or xs i d) (get_or xs j d)) → Pairwise R xs
pairs_from R [] h = tt
pairs_from R (x ∷ xs) h = (λ k d lt. h 0 (suc k) d (omega arith) (omega arith), pairs_from R xs (λ i j d lt below. h (suc i) (suc j) d (omega arith) (omega arith)))

fits : (address : ℕ) (a : Mark) → address ≤ a.address → IsSmall a → fits_behind address a ≡ true
fits address a le s = grind (arith, nat_tests, s.some, s.few, s.end)

all_fit : (address : ℕ) (xs : List Mark) → All (λ a. address ≤ a.address) xs → All IsSmall xs → Pairwise Ends xs → fit_from address xs ≡ true
all_fit address [] from smalls pairs = refl
all_fit address (x ∷ xs) from smalls pairs =
    ap (λ b. b && fit_from (x.address + x.size) xs) (fits address x (All-head (λ (a : Mark). address ≤ a.address) x xs from) (All-head IsSmall x xs smalls))
    ∙ all_fit (x.address + x.size) xs pairs.0 (All-tail IsSmall x xs smalls) pairs.1

-- so they ascend once they are sorted
pub sorted_ascend : (modules : List Contents) (places : List Place) (own : Contents → List ModuleMark) (marks : List Mark) → ((k : ℕ) (m : Contents) → slice_get modules k ≡ Some m → RisingIn own m) → HasOnePart modules places → HasRoom modules places
    → IsPermutation (by_modules (marks_in modules places own) 0 modules) marks → IsNonDecreasingBy (λ m. m.address) marks → fit_from 0 marks ≡ true
sorted_ascend modules places own marks up one room p order =
    let before = by_modules (marks_in modules places own) 0 modules in
    let all = modules_apart modules places own 0 modules up one (λ k m h. let z : k ≡ 0 + k = omega arith in subst (λ n. slice_get modules n ≡ Some m) z h) in
    let smalls : All IsSmall marks = All-permutation IsSmall before marks p (All-weaker (PlacedFrom modules places 0) IsSmall (λ a q. small modules places a room q) before all.each) in
    let apart = moved before marks p (all_disjoint before all.pairs) in
    all_fit 0 marks (λ k d lt. omega arith) smalls
    (pairs_from Ends marks (λ i j d lt below. ends (get_or marks i d) (get_or marks j d) (smalls j d below).some (order i j d (omega arith) below) (apart i j d (omega arith) below (λ e. omega (arith, e, lt)))))

pub marks_rise : (modules : List Contents) → AreModules modules → (k : ℕ) (m : Contents) → slice_get modules k ≡ Some m → Rising m.sections m.marks
marks_rise modules are k m is = rising m.sections m.marks (marks_of_module m (are k m is).lists)

-- ---- the marks of sections that run where they are loaded

filter_both : {A : Type 0} (f g : A → Bool) (xs : List A) → filter (λ x. f x && g x) xs ≡ filter f (filter g xs)
filter_both f g [] = refl
filter_both {A = A} f g (x ∷ xs) = by_second (filter_both f g xs) (g x) where
  by_first : filter (λ y. f y && g y) xs ≡ filter f (filter g xs) → (t : Bool) → cond (t && true) (x ∷ filter (λ y. f y && g y) xs) (filter (λ y. f y && g y) xs) ≡ cond t (x ∷ filter f (filter g xs)) (filter f (filter g xs))
  by_first rest true = ap (λ (ys : List A). x ∷ ys) rest
  by_first rest false = rest

  by_never : filter (λ y. f y && g y) xs ≡ filter f (filter g xs) → (t : Bool) → cond (t && false) (x ∷ filter (λ y. f y && g y) xs) (filter (λ y. f y && g y) xs) ≡ filter f (filter g xs)
  by_never rest true = rest
  by_never rest false = rest

  by_second : filter (λ y. f y && g y) xs ≡ filter f (filter g xs) → (u : Bool) → cond (f x && u) (x ∷ filter (λ y. f y && g y) xs) (filter (λ y. f y && g y) xs) ≡ filter f (cond u (x ∷ filter g xs) (filter g xs))
  by_second rest true = by_first rest (f x)
  by_second rest false = by_never rest (f x)

pairwise_filter : {A : Type 0} (R : A → A → Type 0) (test : A → Bool) (xs : List A) → Pairwise R xs → Pairwise R (filter test xs)
pairwise_filter R test [] p = tt
pairwise_filter R test (x ∷ xs) p = by_test (pairwise_filter R test xs p.1) (test x) where
  by_test : Pairwise R (filter test xs) → (t : Bool) → Pairwise R (cond t (x ∷ filter test xs) (filter test xs))
  by_test rest true = (All-filter test (R x) xs p.0, rest)
  by_test rest false = rest

-- whether the section of a mark runs where it is loaded
abbrev pub runs_there : List Place → Contents → ModuleMark → Bool
runs_there places m x = not (section_runs_elsewhere places m x.section)

-- the marks of a module whose sections do
abbrev pub staying : List Place → Contents → List ModuleMark
staying places m = filter (runs_there places m) m.marks

staying_rise : (modules : List Contents) (places : List Place) → AreModules modules → (k : ℕ) (m : Contents) → slice_get modules k ≡ Some m → Rising m.sections (staying places m)
staying_rise modules places are k m is =
    let all = marks_rise modules are k m is in
    record { good = All-filter (runs_there places m) (IsGood m.sections) m.marks all.good; pairs = pairwise_filter Before (runs_there places m) m.marks all.pairs }

staying_by_modules : (modules : List Contents) (places : List Place) (number : ℕ) (rest : List Contents) → by_modules (module_marks modules places) number rest ≡ by_modules (marks_in modules places (staying places)) number rest
staying_by_modules modules places number [] = refl
staying_by_modules modules places number (m ∷ rest) =
    let here = ap (map (placed_mark modules places number m)) (filter_both (is_on_program places m) (runs_there places m) m.marks) in
    let later = staying_by_modules modules places (number + 1) rest in
    λ i. here i ++ later i

pub has_marks : (modules : List Contents) (places : List Place) (marks : List Mark) → AreModules modules → HasOnePart modules places → HasRoom modules places → IsPermutation (program_marks modules places) marks → IsNonDecreasingBy (λ m. m.address) marks → HasMarks modules places marks
has_marks modules places marks are one room p up =
    let moved = subst (λ ms. IsPermutation ms marks) (staying_by_modules modules places 0 modules) p in
    record { same = p; ascend = sorted_ascend modules places (staying places) marks (staying_rise modules places are) one room moved up }

-- ---- the part of a mark's section, as the code has it

-- a part that passes a test stands on page 0
pub in_place_0 : (part : PartBase) → true ≡ (part.page == 0 && not (is_some part.run)) → part.page ≡ 0
in_place_0 part h = eqb-true part.page 0 (both (part.page == 0) (not (is_some part.run)) (sym h)).0

pub copied_0 : (part : PartBase) → true ≡ (part.page == 0 && is_some part.run) → part.page ≡ 0
copied_0 part h = eqb-true part.page 0 (both (part.page == 0) (is_some part.run) (sym h)).0

pub record KnowsPart (modules : List Contents) (places : List Place) (number : ℕ) (m : Contents) (x : ModuleMark) (part : PartBase) : Type 0 where
  pub base : part.base ≡ section_base modules places number m x.section
  pub page : part.page ≡ section_page places m x.section
  pub run : unwrap_or part.run part.base ≡ section_run modules places number m x.section
  pub elsewhere : is_some part.run ≡ section_runs_elsewhere places m x.section

pub knows_part : (modules : List Contents) (places : List Place) (number index : ℕ) (m : Contents) (x : ModuleMark) (part : PartBase) → index ≡ x.section → part.base ≡ section_base modules places number m index → part.page ≡ section_page places m index
    → unwrap_or part.run part.base ≡ section_run modules places number m index → is_some part.run ≡ section_runs_elsewhere places m index → KnowsPart modules places number m x part
knows_part modules places number index m x part named base page run elsewhere = record {
  base = base ∙ ap (section_base modules places number m) named;
  page = page ∙ ap (section_page places m) named;
  run = run ∙ ap (section_run modules places number m) named;
  elsewhere = elsewhere ∙ ap (section_runs_elsewhere places m) named;
}

module _ (modules : List Contents) (places : List Place) (number : ℕ) (m : Contents) (x : ModuleMark) (part : PartBase) (k : KnowsPart modules places number m x part) where
  pub on_program : (part.page == 0) ≡ is_on_program places m x
  on_program = ap (λ n. n == 0) k.page

  pub run_in_place : (part.page == 0 && not (is_some part.run)) ≡ is_run_in_place places m x
  run_in_place = λ i. (k.page i == 0) && not (k.elsewhere i)

  pub run_elsewhere : (part.page == 0 && is_some part.run) ≡ is_copied places m x
  run_elsewhere = λ i. (k.page i == 0) && k.elsewhere i

  pub mark_made : ◌≡◌ {A = Mark} (record { address = part.base + x.offset; size = x.size }) (placed_mark modules places number m x)
  mark_made = λ i. record { address = k.base i + x.offset; size = x.size }

  pub run_mark_made : ◌≡◌ {A = RunMark} (record { load = part.base + x.offset; run = unwrap_or part.run part.base + x.offset; size = x.size }) (placed_run_mark modules places number m x)
  run_mark_made = λ i. record { load = k.base i + x.offset; run = k.run i + x.offset; size = x.size }

-- ---- one mark more of a module

-- the words of a section where it runs are within a page
run_within : (words base before size : ℕ) (o : Option ℕ) → base + before + size ≤ words → IfSome o (λ run. run + before + size ≤ words) → unwrap_or o base + before + size ≤ words
run_within words base before size None here there = here
run_within words base before size (Some run) here there = there

-- a mark on page 0 is loaded and runs at addresses of the page
pub record IsBelow (part : PartBase) (x : ModuleMark) : Type 0 where
  pub load : part.base + x.offset < 65536
  pub run : unwrap_or part.run part.base + x.offset < 65536

pub mark_below : (modules : List Contents) (places : List Place) (number i : ℕ) (m : Contents) (x d : ModuleMark) (part : PartBase) → AreModules modules → HasRoom modules places → slice_get modules number ≡ Some m → i < length m.marks → x ≡ get_or m.marks i d
    → KnowsPart modules places number m x part → part.page ≡ 0 → IsBelow part x
mark_below modules places number i m x d part are room is lt at k on =
    let g : IsGood m.sections x = subst (IsGood m.sections) (sym at) ((marks_rise modules are number m is).good i d lt) in
    let p = placed_of modules places number m x is g (sym k.page ∙ on) in
    let r = room number x.section p.owner p.section p.part in
    let name = p.section.name in
    let before = size_of_parts name (take number modules) in
    let owner : p.owner ≡ m = let a = p.part.owner_is in cc in
    let there : slice_get m.sections x.section ≡ Some p.section = subst (λ (o : Contents). slice_get o.sections x.section ≡ Some p.section) owner p.part.section_is in
    let base : section_base modules places number m x.section ≡ part_base modules places number name = ap (λ (o : Option SectionData). option_map_or (λ s. part_base modules places number s.name) o 0) there in
    let run : section_run modules places number m x.section ≡ part_run modules places number name = ap (λ (o : Option SectionData). option_map_or (λ s. part_run modules places number s.name) o 0) there in
    let loaded : base_of name places ≡ r.place.base = ap (λ (o : Option Place). option_map_or (λ q. q.base) o 0) r.found in
    let runs : run_base_of name places ≡ unwrap_or r.place.run r.place.base = ap (λ (o : Option Place). option_map_or run_base o 0) r.found in
    let upto : section_base modules places number m x.section + x.offset + x.size ≤ part_base modules places number name + body_size p.section.body = p.upto in
    let end = run_within 65536 r.place.base before (body_size p.section.body) r.place.run (omega (arith, r.within, loaded)) r.runs in
    record {
      load = omega (arith, k.base, r.within, upto, g.some);
      run = omega (arith, k.run, base, run, runs, upto, g.some, end);
    }

pub chosen_more : {A B : Type 0} (test : A → Bool) (h : A → B) (xs : List A) (i : ℕ) (x d : A) → i < length xs → x ≡ get_or xs i d → map h (filter test (take (i + 1) xs)) ≡ map h (filter test (take i xs)) ++ map h (cond (test x) (x ∷ []) [])
chosen_more test h xs i x d lt is =
    ap (λ zs. map h (filter test zs)) (take_more xs i d lt ∙ ap (λ y. take i xs ++ y ∷ []) (sym is))
    ∙ ap (map h) (filter-append test (take i xs) (x ∷ []))
    ∙ map-append h (filter test (take i xs)) (cond (test x) (x ∷ []) [])

-- one more that is chosen, after what was there before
pub chosen_pushed : {A B : Type 0} (test : A → Bool) (h : A → B) (xs : List A) (i : ℕ) (x d : A) (before old new : List B) → i < length xs → x ≡ get_or xs i d → test x ≡ true
    → old ≡ before ++ map h (filter test (take i xs)) → new ≡ old ++ h x ∷ [] → new ≡ before ++ map h (filter test (take (i + 1) xs))
chosen_pushed test h xs i x d before old new lt is on so next =
    next ∙ ap (λ zs. zs ++ h x ∷ []) so ∙ append_assoc before (map h (filter test (take i xs))) (h x ∷ [])
    ∙ ap (λ b. before ++ (map h (filter test (take i xs)) ++ map h (cond b (x ∷ []) []))) (sym on)
    ∙ ap (λ zs. before ++ zs) (sym (chosen_more test h xs i x d lt is))

-- one that is not
pub chosen_left : {A B : Type 0} (test : A → Bool) (h : A → B) (xs : List A) (i : ℕ) (x d : A) (before old : List B) → i < length xs → x ≡ get_or xs i d → test x ≡ false
    → old ≡ before ++ map h (filter test (take i xs)) → old ≡ before ++ map h (filter test (take (i + 1) xs))
chosen_left test h xs i x d before old lt is off so =
    so ∙ ap (λ zs. before ++ zs) (sym (append-nil (map h (filter test (take i xs)))))
    ∙ ap (λ b. before ++ (map h (filter test (take i xs)) ++ map h (cond b (x ∷ []) []))) (sym off)
    ∙ ap (λ zs. before ++ zs) (sym (chosen_more test h xs i x d lt is))

-- ---- what a sorted list leaves of the list that it was

pub take_all_of : {A : Type 0} (n : ℕ) (xs ys : List A) → n ≡ length xs → take n (xs ++ ys) ≡ xs
take_all_of n xs ys e = ap (λ k. take k (xs ++ ys)) e ∙ take-append_seam xs ys

-- what follows of two facts about what a call gave
pub ok_both : {A E : Type 0} (P Q R : A → Type 0) (r : Result A E) → ((x : A) → P x → Q x → R x) → IfOk r P → IfOk r Q → IfOk r R
ok_both P Q R (Ok x) f p q = f x p q
ok_both P Q R (Err e) f p q = p
