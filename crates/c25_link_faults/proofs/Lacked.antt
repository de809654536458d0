-- Sections without a range, by the lists that the code goes over.
use Rattle.std.proofs.Common.{◌≡◌, ℕ, Bool, true, false, ◌&&◌, ◌||◌, cond, List, [], ◌∷◌, ◌++◌, filter, map, refl, sym, ap, ◌∙◌}
use Rattle.std.specs.List.{list_any}
use Rattle.std.specs.Str.{bytes_eq}
use Rattle.std.proofs.lemmas.List.{map-append}
use Rattle.std.proofs.lemmas.List.Elements.{filter-append}
use Rattle.c25_meaning_linking.specs.Command.{CommandData, PlacingData, RangeData}
use Rattle.c25_meaning_linking.specs.GoodMap.{Request, comes_first, comes_later, is_among, listed_request, new_names, placings_for, ranges_for, unlisted_names, unlisted_request}
use Rattle.c25_meaning_linking.specs.Place.{all_sections, is_initialised, is_section_named, is_there}
use Rattle.c25_meaning_objects.specs.Module.{Contents, SectionData, has_words}
use Rattle.c25_link_faults.specs.Faults.{lacks_range, without_range}
use Rattle.c25_link_faults.specs.View.{lacking_listed, lacking_unlisted, loaded_names, placing_names, section_names}

-- ---- names of sections

pub there : (name : List ℕ) (ss : List SectionData) → list_any (is_section_named name) ss ≡ is_among name (section_names ss)
there name [] = refl
there name (s ∷ ss) = ap (λ b. bytes_eq name s.name || b) (there name ss)

pub initialised : (name : List ℕ) (ss : List SectionData) → list_any (λ s. is_section_named name s && has_words s.body) ss ≡ is_among name (loaded_names ss)
initialised name [] = refl
initialised name (s ∷ ss) = by_words (initialised name ss) (has_words s.body) where
  and_false : (b : Bool) → (b && false) ≡ false
  and_false true = refl
  and_false false = refl

  and_true : (b : Bool) → (b && true) ≡ b
  and_true true = refl
  and_true false = refl

  by_words : list_any (λ x. is_section_named name x && has_words x.body) ss ≡ is_among name (loaded_names ss) → (w : Bool) → ((bytes_eq name s.name && w) || list_any (λ x. is_section_named name x && has_words x.body) ss) ≡ is_among name (section_names (cond w (s ∷ filter (λ x. has_words x.body) ss) (filter (λ x. has_words x.body) ss)))
  by_words after true = ap (λ b. b || list_any (λ x. is_section_named name x && has_words x.body) ss) (and_true (bytes_eq name s.name)) ∙ ap (λ b. bytes_eq name s.name || b) after
  by_words after false = ap (λ b. b || list_any (λ x. is_section_named name x && has_words x.body) ss) (and_false (bytes_eq name s.name)) ∙ after

pub is_there_by : (modules : List Contents) (name : List ℕ) (b : Bool) → b ≡ is_among name (section_names (all_sections modules)) → b ≡ is_there name modules
is_there_by modules name b e = e ∙ sym (there name (all_sections modules))

pub is_initialised_by : (modules : List Contents) (name : List ℕ) (b : Bool) → b ≡ is_among name (loaded_names (all_sections modules)) → b ≡ is_initialised name modules
is_initialised_by modules name b e = e ∙ sym (initialised name (all_sections modules))

-- ---- requests

listed_names : (modules : List Contents) (ranges : List RangeData) (test : PlacingData → Bool) (ps : List PlacingData)
    → map (λ (r : Request). r.name) (filter (lacks_range ranges) (map (listed_request modules) (filter test ps))) ≡ placing_names (filter (λ p. test p && lacks_range ranges (listed_request modules p)) ps)
listed_names modules ranges test [] = refl
listed_names modules ranges test (p ∷ ps) = by (listed_names modules ranges test ps) (test p) (lacks_range ranges (listed_request modules p)) refl where
  later : List Request
  later = filter (lacks_range ranges) (map (listed_request modules) (filter test ps))

  kept : List PlacingData
  kept = filter (λ x. test x && lacks_range ranges (listed_request modules x)) ps

  by : map (λ (r : Request). r.name) later ≡ placing_names kept → (t l : Bool) → lacks_range ranges (listed_request modules p) ≡ l
      → map (λ (r : Request). r.name) (filter (lacks_range ranges) (map (listed_request modules) (cond t (p ∷ filter test ps) (filter test ps)))) ≡ placing_names (cond (t && l) (p ∷ kept) kept)
  by rest true true e = ap (λ b. map (λ (r : Request). r.name) (cond b (listed_request modules p ∷ later) later)) e ∙ ap (λ ns. p.name ∷ ns) rest
  by rest true false e = ap (λ b. map (λ (r : Request). r.name) (cond b (listed_request modules p ∷ later) later)) e ∙ rest
  by rest false l e = rest

unlisted : (modules : List Contents) (ranges : List RangeData) (names : List (List ℕ)) → map (λ (r : Request). r.name) (filter (lacks_range ranges) (map (unlisted_request modules) names)) ≡ lacking_unlisted modules ranges names
unlisted modules ranges [] = refl
unlisted modules ranges (name ∷ names) = by (unlisted modules ranges names) (lacks_range ranges (unlisted_request modules name)) where
  later : List Request
  later = filter (lacks_range ranges) (map (unlisted_request modules) names)

  by : map (λ (r : Request). r.name) later ≡ lacking_unlisted modules ranges names → (l : Bool) → map (λ (r : Request). r.name) (cond l (unlisted_request modules name ∷ later) later) ≡ cond l (name ∷ lacking_unlisted modules ranges names) (lacking_unlisted modules ranges names)
  by rest true = ap (λ ns. name ∷ ns) rest
  by rest false = rest

-- the three lists one after the other
pub without : (modules : List Contents) (command : CommandData)
    → without_range modules command
    ≡ (lacking_listed true modules (ranges_for command) (placings_for command) ++ lacking_listed false modules (ranges_for command) (placings_for command))
    ++ lacking_unlisted modules (ranges_for command) (new_names (placing_names (placings_for command)) (section_names (all_sections modules)))
without modules command =
    let ranges = ranges_for command in
    let placings = placings_for command in
    let named = λ (r : Request). r.name in
    let first = map (listed_request modules) (filter (comes_first modules) placings) in
    let later = map (listed_request modules) (filter (comes_later modules) placings) in
    let others = map (unlisted_request modules) (unlisted_names modules placings) in
    ap (map named) (split first later others ranges)
    ∙ map-append named (filter (lacks_range ranges) first ++ filter (lacks_range ranges) later) (filter (lacks_range ranges) others)
    ∙ ap (λ ns. ns ++ map named (filter (lacks_range ranges) others)) (map-append named (filter (lacks_range ranges) first) (filter (lacks_range ranges) later))
    ∙ ap (λ ns. (ns ++ map named (filter (lacks_range ranges) later)) ++ map named (filter (lacks_range ranges) others)) (listed_names modules ranges (comes_first modules) placings)
    ∙ ap (λ ns. (lacking_listed true modules ranges placings ++ ns) ++ map named (filter (lacks_range ranges) others)) (listed_names modules ranges (comes_later modules) placings)
    ∙ ap (λ ns. (lacking_listed true modules ranges placings ++ lacking_listed false modules ranges placings) ++ ns) (unlisted modules ranges (unlisted_names modules placings))
  where
    split : (xs ys zs : List Request) (ranges : List RangeData) → filter (lacks_range ranges) (xs ++ ys ++ zs) ≡ (filter (lacks_range ranges) xs ++ filter (lacks_range ranges) ys) ++ filter (lacks_range ranges) zs
    split xs ys zs ranges = filter-append (lacks_range ranges) (xs ++ ys) zs ∙ ap (λ rs. rs ++ filter (lacks_range ranges) zs) (filter-append (lacks_range ranges) xs ys)

-- the lists that the code appends one after the other
pub joined : (modules : List Contents) (command : CommandData) (ranges : List RangeData) (placings : List PlacingData) (names first second third : List (List ℕ)) → ranges ≡ ranges_for command → placings ≡ placings_for command
    → names ≡ new_names (placing_names placings) (section_names (all_sections modules)) → first ≡ lacking_listed true modules ranges placings → second ≡ first ++ lacking_listed false modules ranges placings
    → third ≡ second ++ lacking_unlisted modules ranges names → third ≡ without_range modules command
joined modules command ranges placings names first second third of_ranges of_placings of_names e f g =
    g ∙ ap (λ ns. ns ++ lacking_unlisted modules ranges names) (f ∙ ap (λ ns. ns ++ lacking_listed false modules ranges placings) e)
    ∙ ap (λ ns. both ranges placings ++ lacking_unlisted modules ranges ns) of_names
    ∙ ap (λ rs. both rs placings ++ lacking_unlisted modules rs (new_names (placing_names placings) (section_names (all_sections modules)))) of_ranges
    ∙ ap (λ ps. both (ranges_for command) ps ++ lacking_unlisted modules (ranges_for command) (new_names (placing_names ps) (section_names (all_sections modules)))) of_placings
    ∙ sym (without modules command)
  where
    both : List RangeData → List PlacingData → List (List ℕ)
    both rs ps = lacking_listed true modules rs ps ++ lacking_listed false modules rs ps
