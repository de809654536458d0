-- An address of a page lies in one part at most.
use Rattle.std.proofs.Common.{◌≡◌, ℕ, zero, suc, ◌+◌, ◌<◌, ◌≤◌, Bool, true, false, not, ◌&&◌, cond, ltb, List, [], ◌∷◌, ◌++◌, length, get_or, take, Option, Some, refl, sym, ap, subst, ◌∙◌, arith, inl, inr, ◌⊎◌}
use Rattle.std.specs.List.{slice_get, sum_by}
use Rattle.std.specs.Option.{option_map_or}
use Rattle.std.specs.Str.{bytes_eq}
use Rattle.std.proofs.lemmas.Bool.{cases_lt}
use Rattle.std.proofs.lemmas.List.{append-nil, append_assoc, get_or-take, length-take-le}
use Rattle.std.proofs.lemmas.List.Concat.{flat_map-cons}
use Rattle.std.proofs.lemmas.List.Folds.{list_any_at}
use Rattle.std.proofs.lemmas.List.Sums.{sum_by-append, sum_by-cons, sum_by_more, sum_by-take-le, get_or-le-sum_by}
use Rattle.std.proofs.lemmas.Option.{slice_get_within, get_or_from_slice_get}
use Rattle.c25_meaning_linking.specs.Command.{RangeData, PlacingData}
use Rattle.c25_meaning_objects.specs.Module.{SectionData, Contents, body_size, each_fits, section_fits, has_section, is_module, lists_fit, has_sections}
use Rattle.c25_meaning_linking.specs.Place.{Place, place_named, base_of, page_of, size_for, size_of_parts, is_section_named, all_sections, part_base, IsPart, LiesIn}
use Rattle.c25_meaning_linking.specs.GoodMap.{requests, ArePlaced, has_word}
use Rattle.c25_meaning_linking.proofs.Apart.{placed_apart, named_apart, is_word}
use Rattle.c25_meaning_linking.proofs.PlaceNames.{place_of, any_section, is_same, same_name}

-- ---- sizes of parts

-- how many words a module has in its sections of a name
abbrev pub size_in : List ℕ → Contents → ℕ
size_in name m = sum_by (size_for name) m.sections

pub sizes_by_module : (name : List ℕ) (modules : List Contents) → size_of_parts name modules ≡ sum_by (size_in name) modules
sizes_by_module name [] = refl
sizes_by_module name (m ∷ ms) =
    ap (sum_by (size_for name)) (flat_map-cons (λ (c : Contents). c.sections) m ms) ∙ sum_by-append (size_for name) m.sections (all_sections ms)
    ∙ ap (λ n. size_in name m + n) (sizes_by_module name ms) ∙ sym (sum_by-cons (size_in name) m ms)

mono : {X : Type 0} (f : X → ℕ) (xs : List X) (i j : ℕ) → i ≤ j → sum_by f (take i xs) ≤ sum_by f (take j xs)
mono f [] zero zero le = omega arith
mono f [] zero (suc j) le = omega arith
mono f [] (suc i) zero le = omega arith
mono f [] (suc i) (suc j) le = omega arith
mono f (x ∷ xs) zero j le = omega arith
mono f (x ∷ xs) (suc i) zero le = absurd (omega arith)
mono f (x ∷ xs) (suc i) (suc j) le = omega (arith, sum_by-cons f x (take i xs), sum_by-cons f x (take j xs), mono f xs i j (omega arith))

pub size_of_section : (name : List ℕ) (owner : Contents) (index : ℕ) (section : SectionData) → slice_get owner.sections index ≡ Some section → name ≡ section.name → body_size section.body ≤ size_in name owner
size_of_section name owner index section h e =
    let own : size_for name section ≡ body_size section.body = ap (λ b. cond b (body_size section.body) 0) (ap (bytes_eq name) (sym e) ∙ is_same name) in
    let at : get_or owner.sections index section ≡ section = get_or_from_slice_get owner.sections index section section h in
    omega (arith, own, ap (size_for name) at, get_or-le-sum_by (size_for name) owner.sections index section (slice_get_within owner.sections index section h))

pub sizes_more : (name : List ℕ) (modules : List Contents) (number : ℕ) (owner : Contents) → slice_get modules number ≡ Some owner → size_of_parts name (take (number + 1) modules) ≡ size_of_parts name (take number modules) + size_in name owner
sizes_more name modules number owner h =
    let at : get_or modules number owner ≡ owner = get_or_from_slice_get modules number owner owner h in
    sizes_by_module name (take (number + 1) modules) ∙ sum_by_more (size_in name) modules number owner (slice_get_within modules number owner h)
    ∙ ap (λ m. sum_by (size_in name) (take number modules) + size_in name m) at ∙ ap (λ n. n + size_in name owner) (sym (sizes_by_module name (take number modules)))

pub sizes_mono : (name : List ℕ) (modules : List Contents) (i j : ℕ) → i ≤ j → size_of_parts name (take i modules) ≤ size_of_parts name (take j modules)
sizes_mono name modules i j le = omega (arith, sizes_by_module name (take i modules), sizes_by_module name (take j modules), mono (size_in name) modules i j le)

pub sizes_within : (name : List ℕ) (modules : List Contents) (i : ℕ) → size_of_parts name (take i modules) ≤ size_of_parts name modules
sizes_within name modules i = omega (arith, sizes_by_module name (take i modules), sizes_by_module name modules, sum_by-take-le (size_in name) modules i)

-- ---- sections of one module have different names

both : (a b : Bool) → (a && b) ≡ true → (a ≡ true) × (b ≡ true)
both true b h = (refl, h)
both false b h = absurd cc

fits_at : {A : Type 0} (fits : List A → A → Bool) (before xs : List A) (i : ℕ) (x : A) → each_fits fits before xs ≡ true → slice_get xs i ≡ Some x → fits (before ++ take i xs) x ≡ true
fits_at fits before [] i x e h = absurd cc
fits_at fits before (y ∷ ys) zero x e h =
    let same : y ≡ x = cc in
    ap (λ b. fits b x) (append-nil before) ∙ ap (fits before) (sym same) ∙ (both (fits before y) (each_fits fits (before ++ y ∷ []) ys) e).0
fits_at fits before (y ∷ ys) (suc i) x e h =
    ap (λ b. fits b x) (sym (append_assoc before (y ∷ []) (take i ys))) ∙ fits_at fits (before ++ y ∷ []) ys i x (both (fits before y) (each_fits fits (before ++ y ∷ []) ys) e).1 h

not_true : (b : Bool) → not b ≡ true → b ≡ false
not_true true h = absurd cc
not_true false h = refl

not_before : (sections : List SectionData) (i j : ℕ) (s t : SectionData) → each_fits section_fits [] sections ≡ true → slice_get sections i ≡ Some s → slice_get sections j ≡ Some t → s.name ≡ t.name → i < j → ⊥
not_before sections i j s t e hi hj same lt =
    let fits = fits_at section_fits [] sections j t e hj in
    let front = both _ (ltb (length (take j sections)) 255) fits in
    let fresh = not_true (has_section (take j sections) t.name) (both _ (not (has_section (take j sections) t.name)) front.0).1 in
    let at : get_or (take j sections) i s ≡ s = get_or-take j sections i s lt ∙ get_or_from_slice_get sections i s s hi in
    let below : i < length (take j sections) = omega (arith, length-take-le j sections (omega (arith, slice_get_within sections j t hj))) in
    let found : has_section (take j sections) t.name ≡ true =
    list_any_at (λ (x : SectionData). bytes_eq x.name t.name) (take j sections) i s below (ap (λ (x : SectionData). bytes_eq x.name t.name) at ∙ ap (λ n. bytes_eq n t.name) same ∙ is_same t.name) in
    absurd cc

pub same_index : (sections : List SectionData) (i j : ℕ) (s t : SectionData) → each_fits section_fits [] sections ≡ true → slice_get sections i ≡ Some s → slice_get sections j ≡ Some t → s.name ≡ t.name → i ≡ j
same_index sections i j s t e hi hj same =
    elim (cases_lt i j) [
      | inl lt ↦ absurd (not_before sections i j s t e hi hj same lt)
      | inr ge ↦ elim (cases_lt j i) [
        | inl lt ↦ absurd (not_before sections j i t s e hj hi (sym same) lt)
        | inr le ↦ omega arith
      ]
    ]

pub sections_of_module : (c : Contents) → is_module c ≡ true → each_fits section_fits [] c.sections ≡ true
sections_of_module c h = (both _ _ (both (has_sections c) (lists_fit c) h).1).0

-- ---- a part lies in the place of its section

pub record InPlace (modules : List Contents) (places : List Place) (number : ℕ) (owner : Contents) (section : SectionData) : Type 0 where
  pub place : Place
  pub found : place_named section.name places ≡ Some place
  pub base_is : part_base modules places number section.name ≡ place.base + size_of_parts section.name (take number modules)
  pub page_is : page_of section.name places ≡ place.page
  pub within : part_base modules places number section.name + body_size section.body ≤ place.base + place.size

pub part_in_place : (ranges : List RangeData) (modules : List Contents) (placings : List PlacingData) (places : List Place) (number index : ℕ) (owner : Contents) (section : SectionData) → ArePlaced ranges (requests modules placings) places → IsPart modules number index owner section → InPlace modules places number owner section
part_in_place ranges modules placings places number index owner section s part =
    let has = place_of ranges modules placings places section.name s (any_section (is_section_named section.name) modules number index owner section part.owner_is part.section_is (is_same section.name)) in
    let base : base_of section.name places ≡ has.place.base = ap (λ (o : Option Place). option_map_or (λ p. p.base) o 0) has.found in
    let more = sizes_more section.name modules number owner part.owner_is in
    let own = size_of_section section.name owner index section part.section_is refl in
    let all = sizes_within section.name modules (number + 1) in
    record {
      place = has.place;
      found = has.found;
      base_is = ap (λ n. n + size_of_parts section.name (take number modules)) base;
      page_is = ap (λ (o : Option Place). option_map_or (λ p. p.page) o 0) has.found;
      within = omega (arith, base, more, own, all, has.size_is);
    }

word_in_place : (modules : List Contents) (places : List Place) (number page address : ℕ) (owner : Contents) (section : SectionData) (i : InPlace modules places number owner section) → LiesIn modules places number section page address → has_word page address i.place ≡ true
word_in_place modules places number page address owner section i l =
    is_word page address i.place (sym i.page_is ∙ sym l.page_is) (omega (arith, i.base_is, l.covers.from)) (omega (arith, i.within, l.covers.upto))

-- the part of an earlier module ends before that of a later one begins
earlier_part : (modules : List Contents) (places : List Place) (number other page address : ℕ) (owner : Contents) (index : ℕ) (section another : SectionData) → IsPart modules number index owner section → section.name ≡ another.name → LiesIn modules places number section page address → LiesIn modules places other another page address → number < other → ⊥
earlier_part modules places number other page address owner index section another part same l k lt =
    let name = section.name in
    let more = sizes_more name modules number owner part.owner_is in
    let own = size_of_section name owner index section part.section_is refl in
    let up = sizes_mono name modules (number + 1) other (omega arith) in
    let base : part_base modules places other another.name ≡ part_base modules places other name = ap (part_base modules places other) (sym same) in
    omega (arith, more, own, up, base, l.covers.upto, k.covers.from)

-- ---- two parts

pub record OnePart (number other index another : ℕ) : Type 0 where
  pub numbers : number ≡ other
  pub indexes : index ≡ another

names_or_not : (a b : List ℕ) → (a ≡ b) ⊎ (a ≡ b → ⊥)
names_or_not a b = by_test (bytes_eq a b) refl where
  by_test : (t : Bool) → bytes_eq a b ≡ t → (a ≡ b) ⊎ (a ≡ b → ⊥)
  by_test true e = inl (same_name a b e)
  by_test false e = inr (λ same. let t : bytes_eq a b ≡ true = ap (bytes_eq a) (sym same) ∙ is_same a in absurd cc)

same_modules : (modules : List Contents) (places : List Place) (number other index another page address : ℕ) (owner owner2 : Contents) (section section2 : SectionData) → ((m : Contents) (n : ℕ) → slice_get modules n ≡ Some m → is_module m ≡ true)
    → IsPart modules number index owner section → IsPart modules other another owner2 section2 → section.name ≡ section2.name → LiesIn modules places number section page address → LiesIn modules places other section2 page address → OnePart number other index another
same_modules modules places number other index another page address owner owner2 section section2 each p q same l k =
    elim (cases_lt number other) [
      | inl lt ↦ absurd (earlier_part modules places number other page address owner index section section2 p same l k lt)
      | inr ge ↦ elim (cases_lt other number) [
        | inl lt ↦ absurd (earlier_part modules places other number page address owner2 another section2 section q (sym same) k l lt)
        | inr le ↦
            let numbers : number ≡ other = omega arith in
            let owners : owner ≡ owner2 = let e : slice_get modules number ≡ slice_get modules other = ap (slice_get modules) numbers in cc in
            let there : slice_get owner.sections another ≡ Some section2 = subst (λ (o : Contents). slice_get o.sections another ≡ Some section2) (sym owners) q.section_is in
            record { numbers = numbers; indexes = same_index owner.sections index another section section2 (sections_of_module owner (each owner number p.owner_is)) p.section_is there same }
      ]
    ]

pub one_part : (ranges : List RangeData) (modules : List Contents) (placings : List PlacingData) (places : List Place) → ((m : Contents) (n : ℕ) → slice_get modules n ≡ Some m → is_module m ≡ true) → ArePlaced ranges (requests modules placings) places
    → (number other index another page address : ℕ) (owner owner2 : Contents) (section section2 : SectionData)
    → IsPart modules number index owner section → IsPart modules other another owner2 section2 → LiesIn modules places number section page address → LiesIn modules places other section2 page address → OnePart number other index another
one_part ranges modules placings places each s number other index another page address owner owner2 section section2 p q l k =
    elim (names_or_not section.name section2.name) [
      | inl same ↦ same_modules modules places number other index another page address owner owner2 section section2 each p q same l k
      | inr differ ↦
          let i = part_in_place ranges modules placings places number index owner section s p in
          let j = part_in_place ranges modules placings places other another owner2 section2 s q in
          absurd (named_apart section.name section2.name i.place j.place places differ (placed_apart ranges (requests modules placings) places s) i.found j.found page address (word_in_place modules places number page address owner section i l) (word_in_place modules places other page address owner2 section2 j k))
    ]
