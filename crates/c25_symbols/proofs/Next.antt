-- Where parts begin, one after another.
use Rattle.std.proofs.Common.{◌≡◌, ℕ, ◌+◌, ◌%◌, ◌^◌, Bool, true, false, cond, List, [], ◌∷◌, ◌++◌, length, get_or, map, take, ◌<◌, Option, Some, None, refl, sym, ap, subst, ◌∙◌, add-zero, arith}
use Rattle.std.specs.Option.{option_map, option_map_or, option_or}
use Rattle.std.specs.Prelude.{unwrap_or}
use Rattle.std.specs.Str.{bytes_eq}
use Rattle.std.proofs.Common.{append_assoc}
use Rattle.std.proofs.lemmas.List.{flat_map_more, map_more, take_more}
use Rattle.std.proofs.Math.Nat.{add-mod-mod, mod-add-mod, mod-mod}
use Rattle.std.proofs.lemmas.List.Folds.{find-append}
use Rattle.std.proofs.lemmas.List.Sums.{sum_by_push}
use Rattle.c25_map.specs.View.{map_data}
use Rattle.c25_map.specs.View as viewed
use Rattle.c25_map.specs.declared.map.Map.{Map}
use Rattle.c25_map.specs.declared.map.OutputSection.{OutputSection}
use Rattle.c25_meaning_linking.specs.MapText.{SectionPlace}
use Rattle.c25_meaning_objects.specs.Module.{Contents, SectionData, body_size}
use Rattle.c25_meaning_linking.specs.Place.{Place, all_sections, base_of, place_named, run_base, run_base_of, size_for}
use Rattle.c25_meaning_linking.proofs.PlaceNames.{is_same, same_name}
use Rattle.c25_module.specs.View.{section_data, sections_data}
use Rattle.c25_module.specs.declared.parts.Section.{Section}
use Rattle.c25_symbols.specs.Parts.{AreAlike, BeginsAt, KnowsNext, at_zero, first_of, first_part, next_of, size_of_sections}
use Rattle.c25_symbols.specs.View.{place_of, places_of, places_view}
use Rattle.c25_symbols.specs.declared.parts.NextStarts.{NextStarts}
use Rattle.c25_symbols.specs.declared.parts.PartStart.{PartStart}

-- ---- lists that grow

pub places_more : (sections : List OutputSection) (i : ℕ) (s : OutputSection) → i < length sections → s ≡ get_or sections i s → places_view (take (i + 1) sections) ≡ places_view (take i sections) ++ place_of s ∷ []
places_more sections i s low at = map_more place_of sections i s low ∙ ap (λ (x : OutputSection). places_view (take i sections) ++ place_of x ∷ []) (sym at)

pub sections_more : (before : List SectionData) (own : List Section) (i : ℕ) (s : Section) → i < length own → s ≡ get_or own i s
    → (before ++ sections_data (take i own)) ++ section_data s ∷ [] ≡ before ++ sections_data (take (i + 1) own)
sections_more before own i s low at =
    append_assoc before (sections_data (take i own)) (section_data s ∷ [])
    ∙ ap (λ (xs : List SectionData). before ++ xs) (ap (λ (x : Section). sections_data (take i own) ++ section_data x ∷ []) at ∙ sym (map_more section_data own i s low))

pub modules_more : (modules : List Contents) (i : ℕ) (m : Contents) → i < length modules → m ≡ get_or modules i m → all_sections (take i modules) ++ m.sections ≡ all_sections (take (i + 1) modules)
modules_more modules i m low at =
    flat_map_more (λ (x : Contents). x.sections) [] (take i modules) m
    ∙ ap all_sections (ap (λ (x : Contents). take i modules ++ x ∷ []) at ∙ sym (take_more modules i m low))

-- the places of a map
pub places_seen : (m : Map) → places_view m.sections.items ≡ places_of (map_data m)
places_seen m = seen m.sections.items where
  seen : (sections : List OutputSection) → places_view sections ≡ map (λ (s : SectionPlace). s.place) (map viewed.section_data sections)
  seen [] = refl
  seen (s ∷ sections) = ap (λ (ps : List Place). place_of s ∷ ps) (seen sections)

-- ---- first parts

or_none : {A : Type 0} (o : Option A) → option_or o None ≡ o
or_none None = refl
or_none (Some x) = refl

-- a name that is known
pub first_known : (other name : List ℕ) (p : Place) (known : List ℕ → Option PartStart) (q : PartStart) → name ≡ p.name → known name ≡ Some q → known other ≡ option_or (known other) (first_of (p ∷ []) other)
first_known other name p known q named there = by_test (bytes_eq other p.name) refl where
  by_test : (b : Bool) → bytes_eq other p.name ≡ b → known other ≡ option_or (known other) (option_map first_part (cond (bytes_eq other p.name) (Some p) None))
  by_test true e =
      let is : known other ≡ Some q = ap known (same_name other p.name e ∙ sym named) ∙ there in
      is ∙ ap (λ o. option_or o (option_map first_part (cond (bytes_eq other p.name) (Some p) None))) (sym is)
  by_test false e = sym (ap (λ (b : Bool). option_or (known other) (option_map first_part (cond b (Some p) None))) e ∙ or_none (known other))

-- one that is not
pub first_new : (other name : List ℕ) (p : Place) (known : List ℕ → Option PartStart) (part : PartStart) → name ≡ p.name → known name ≡ None → part ≡ first_part p
    → cond (bytes_eq name other) (Some part) (known other) ≡ option_or (known other) (first_of (p ∷ []) other)
first_new other name p known part named none is = by_test (bytes_eq name other) refl where
  by_test : (b : Bool) → bytes_eq name other ≡ b → cond b (Some part) (known other) ≡ option_or (known other) (option_map first_part (cond (bytes_eq other p.name) (Some p) None))
  by_test true e =
      let same : other ≡ p.name = sym (same_name name other e) ∙ named in
      let unknown : known other ≡ None = ap known (sym (same_name name other e)) ∙ none in
      let found : bytes_eq other p.name ≡ true = ap (λ n. bytes_eq n p.name) same ∙ is_same p.name in
      ap Some is ∙ ap (λ (b : Bool). option_map first_part (cond b (Some p) None)) (sym found)
      ∙ ap (λ o. option_or o (option_map first_part (cond (bytes_eq other p.name) (Some p) None))) (sym unknown)
  by_test false e = by_other (bytes_eq other p.name) refl where
    by_other : (b : Bool) → bytes_eq other p.name ≡ b → known other ≡ option_or (known other) (option_map first_part (cond b (Some p) None))
    by_other true f = let same : bytes_eq name other ≡ true = ap (bytes_eq name) (same_name other p.name f ∙ sym named) ∙ is_same name in absurd cc
    by_other false f = sym (or_none (known other))

-- a place more
pub first_more : (places : List Place) (p : Place) (name : List ℕ) → option_or (first_of places name) (first_of (p ∷ []) name) ≡ first_of (places ++ p ∷ []) name
first_more places p name = by_place (place_named name places) ∙ ap (option_map first_part) (sym (find-append (λ (q : Place). bytes_eq name q.name) places (p ∷ []))) where
  by_place : (o : Option Place) → option_or (option_map first_part o) (first_of (p ∷ []) name) ≡ option_map first_part (option_or o (place_named name (p ∷ [])))
  by_place None = refl
  by_place (Some q) = refl

-- before all parts
pub begins_first : (next : NextStarts) (places : List Place) → ((name : List ℕ) → next_of next name ≡ unwrap_or (first_of places name) at_zero) → KnowsNext next places []
begins_first next places known = λ name. subst (λ (p : PartStart). BeginsAt p (base_of name places + 0) (run_base_of name places + 0)) (sym (known name)) (by_place (place_named name places)) where
  by_place : (o : Option Place) → BeginsAt (unwrap_or (option_map first_part o) at_zero) (option_map_or (λ p. p.base) o 0 + 0) (option_map_or run_base o 0 + 0)
  by_place None = record { base_is = refl; run_is = refl }
  by_place (Some p) = record { base_is = ap (λ n. n % 2 ^ 32) (sym (add-zero p.base)); run_is = ap (λ n. n % 2 ^ 32) (sym (add-zero (run_base p))) }

-- ---- a part more

alike_sum : (m a b c d : ℕ) → a % m ≡ b % m → c % m ≡ d % m → (a + c) % m % m ≡ (b + d) % m
alike_sum m a b c d e f =
    mod-mod (a + c) m ∙ sym (mod-add-mod a m c) ∙ ap (λ n. (n + c) % m) e ∙ mod-add-mod b m c ∙ sym (add-mod-mod b c m) ∙ ap (λ n. (b + n) % m) f ∙ add-mod-mod b d m

own_size : (name : List ℕ) (s : SectionData) → name ≡ s.name → size_for name s ≡ body_size s.body
own_size name s e = ap (λ b. cond b (body_size s.body) 0) (ap (bytes_eq name) (sym e) ∙ is_same name)

other_size : (name : List ℕ) (s : SectionData) → bytes_eq name s.name ≡ false → size_for name s ≡ 0
other_size name s e = ap (λ b. cond b (body_size s.body) 0) e

more_size : (name : List ℕ) (ss : List SectionData) (s : SectionData) (base words : ℕ) → size_for name s ≡ words → (base + size_of_sections name ss) + words ≡ base + size_of_sections name (ss ++ s ∷ [])
more_size name ss s base words e = let all = sum_by_push (size_for name) ss s in omega (arith, all, e)

-- what is found once a part is put in
pub found_part : (b : Bool) (after : PartStart) (o : Option PartStart) → unwrap_or (cond b (Some after) o) at_zero ≡ cond b after (unwrap_or o at_zero)
found_part true after o = refl
found_part false after o = refl

-- the next parts after a section
pub begins_next : (places : List Place) (ss : List SectionData) (s : SectionData) (known : List ℕ → PartStart) (after : PartStart) (name : List ℕ) (size : ℕ) → name ≡ s.name → AreAlike size (body_size s.body)
    → ((other : List ℕ) → BeginsAt (known other) (base_of other places + size_of_sections other ss) (run_base_of other places + size_of_sections other ss))
    → after ≡ record { base = ((known name).base + size) % 2 ^ 32; run = ((known name).run + size) % 2 ^ 32 } → (other : List ℕ)
    → BeginsAt (cond (bytes_eq name other) after (known other)) (base_of other places + size_of_sections other (ss ++ s ∷ [])) (run_base_of other places + size_of_sections other (ss ++ s ∷ []))
begins_next places ss s known after name size named alike begins is other = by_test (bytes_eq name other) refl where
  by_test : (b : Bool) → bytes_eq name other ≡ b → BeginsAt (cond b after (known other)) (base_of other places + size_of_sections other (ss ++ s ∷ [])) (run_base_of other places + size_of_sections other (ss ++ s ∷ []))
  by_test true e =
      let same : name ≡ other = same_name name other e in
      let own : size_for other s ≡ body_size s.body = own_size other s (sym same ∙ named) in
      let here : BeginsAt (known name) (base_of other places + size_of_sections other ss) (run_base_of other places + size_of_sections other ss) = subst (λ (n : List ℕ). BeginsAt (known n) (base_of other places + size_of_sections other ss) (run_base_of other places + size_of_sections other ss)) (sym same) (begins other) in
      record {
        base_is =
            ap (λ (p : PartStart). p.base % 2 ^ 32) is
            ∙ alike_sum (2 ^ 32) (known name).base (base_of other places + size_of_sections other ss) size (body_size s.body) here.base_is alike
            ∙ ap (λ n. n % 2 ^ 32) (more_size other ss s (base_of other places) (body_size s.body) own);
        run_is =
            ap (λ (p : PartStart). p.run % 2 ^ 32) is
            ∙ alike_sum (2 ^ 32) (known name).run (run_base_of other places + size_of_sections other ss) size (body_size s.body) here.run_is alike
            ∙ ap (λ n. n % 2 ^ 32) (more_size other ss s (run_base_of other places) (body_size s.body) own);
      }
  by_test false e =
      let none : size_for other s ≡ 0 = other_size other s (apart (bytes_eq other s.name) refl) in
      let more = λ (base : ℕ). sym (add-zero (base + size_of_sections other ss)) ∙ more_size other ss s base 0 none in
      record {
        base_is = (begins other).base_is ∙ ap (λ n. n % 2 ^ 32) (more (base_of other places));
        run_is = (begins other).run_is ∙ ap (λ n. n % 2 ^ 32) (more (run_base_of other places));
      }
    where
      apart : (b : Bool) → bytes_eq other s.name ≡ b → bytes_eq other s.name ≡ false
      apart true f = let same : bytes_eq name other ≡ true = ap (bytes_eq name) (same_name other s.name f ∙ sym named) ∙ is_same name in absurd cc
      apart false f = f
