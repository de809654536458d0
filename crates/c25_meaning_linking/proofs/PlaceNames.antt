-- Each section of the modules has a place of its name, with room for all its parts.
use Rattle.std.proofs.Common.{◌≡◌, ℕ, zero, suc, Bool, true, false, not, ◌&&◌, ◌||◌, cond, List, [], ◌∷◌, ◌++◌, map, filter, reverse, Some, refl, sym, ap, subst, ◌∙◌}
use Rattle.std.specs.List.{list_any, slice_get}
use Rattle.std.specs.Str.{bytes_eq}
use Rattle.std.proofs.lemmas.List.{map-append, reverse-reverse, reverse-append}
use Rattle.std.proofs.lemmas.List.Concat.{flat_map-cons}
use Rattle.std.proofs.lemmas.List.Folds.{list_any-append}
use Rattle.std.proofs.lemmas.Map.Keys.{any_passes_from_place}
use Rattle.std.proofs.lemmas.Slice.Eq.{bytes_eq-Decides}
use Rattle.c25_meaning_linking.specs.Command.{RangeData, PlacingData}
use Rattle.c25_meaning_objects.specs.Module.{SectionData, Contents}
use Rattle.c25_meaning_linking.specs.Place.{Place, place_named, size_of_parts, is_there, is_section_named, all_sections}
use Rattle.c25_meaning_linking.specs.GoodMap.{Request, listed_request, unlisted_request, has_address, comes_first, comes_later, is_among, new_names, unlisted_names, requests, Stand, ArePlaced}

pub same_name : (a b : List ℕ) → bytes_eq a b ≡ true → a ≡ b
same_name a b = (bytes_eq-Decides a b).0

pub is_same : (a : List ℕ) → bytes_eq a a ≡ true
is_same a = (bytes_eq-Decides a a).1 refl

pub or_true : (b : Bool) → (b || true) ≡ true
or_true true = refl
or_true false = refl

-- ---- names and sizes of places are those of the requests

-- a name, and how many words its section has
abbrev Key : Type 0
Key = List ℕ × ℕ

abbrev place_key : Place → Key
place_key p = (p.name, p.size)

abbrev request_key : Request → Key
request_key r = (r.name, r.size)

abbrev sized : List Contents → List ℕ → Key
sized modules name = (name, size_of_parts name modules)

stand_keys : (ranges : List RangeData) (rs : List Request) (ps : List Place) → Stand ranges rs ps → map place_key (reverse ps) ≡ map request_key (reverse rs)
stand_keys ranges [] [] s = refl
stand_keys ranges [] (p ∷ ps) s = absurd s
stand_keys ranges (r ∷ rs) [] s = absurd s
stand_keys ranges (r ∷ rs) (p ∷ ps) s =
    let last : place_key p ≡ request_key r = λ i. (s.0.name_is i, s.0.size_is i) in
    ap (map place_key) (reverse-append (p ∷ []) ps)
    ∙ map-append place_key (reverse ps) (p ∷ [])
    ∙ ap (λ ks. ks ++ place_key p ∷ []) (stand_keys ranges rs ps s.1)
    ∙ ap (λ k. map request_key (reverse rs) ++ k ∷ []) last
    ∙ sym (map-append request_key (reverse rs) (r ∷ []))
    ∙ ap (map request_key) (sym (reverse-append (r ∷ []) rs))

placed_keys : (ranges : List RangeData) (rs : List Request) (places : List Place) → ArePlaced ranges rs places → map place_key places ≡ map request_key rs
placed_keys ranges rs places s =
    ap (map place_key) (sym (reverse-reverse places)) ∙ stand_keys ranges (reverse rs) (reverse places) s ∙ ap (map request_key) (reverse-reverse rs)

-- ---- requests ask for room for all parts

listed_keys : (modules : List Contents) (ps : List PlacingData) → map request_key (map (listed_request modules) ps) ≡ map (sized modules) (map (λ p. p.name) ps)
listed_keys modules [] = refl
listed_keys modules (p ∷ ps) = ap (λ ks. sized modules p.name ∷ ks) (listed_keys modules ps)

unlisted_keys : (modules : List Contents) (names : List (List ℕ)) → map request_key (map (unlisted_request modules) names) ≡ map (sized modules) names
unlisted_keys modules [] = refl
unlisted_keys modules (name ∷ names) = ap (λ ks. sized modules name ∷ ks) (unlisted_keys modules names)

-- the names of all sections that are to be placed
abbrev pub request_names : List Contents → List PlacingData → List (List ℕ)
request_names modules placings =
    map (λ p. p.name) (filter (comes_first modules) placings) ++ map (λ p. p.name) (filter (comes_later modules) placings) ++ unlisted_names modules placings

requests_keys : (modules : List Contents) (placings : List PlacingData) → map request_key (requests modules placings) ≡ map (sized modules) (request_names modules placings)
requests_keys modules placings =
    let first = filter (comes_first modules) placings in
    let later = filter (comes_later modules) placings in
    let others = unlisted_names modules placings in
    let name = λ (p : PlacingData). p.name in
    map-append request_key (map (listed_request modules) first ++ map (listed_request modules) later) (map (unlisted_request modules) others)
    ∙ ap (λ ks. ks ++ map request_key (map (unlisted_request modules) others)) (map-append request_key (map (listed_request modules) first) (map (listed_request modules) later))
    ∙ ap (λ ks. (ks ++ map request_key (map (listed_request modules) later)) ++ map request_key (map (unlisted_request modules) others)) (listed_keys modules first)
    ∙ ap (λ ks. (map (sized modules) (map name first) ++ ks) ++ map request_key (map (unlisted_request modules) others)) (listed_keys modules later)
    ∙ ap (λ ks. (map (sized modules) (map name first) ++ map (sized modules) (map name later)) ++ ks) (unlisted_keys modules others)
    ∙ ap (λ ks. ks ++ map (sized modules) others) (sym (map-append (sized modules) (map name first) (map name later)))
    ∙ sym (map-append (sized modules) (map name first ++ map name later) others)

-- ---- the place of a name

pub record HasPlace (modules : List Contents) (places : List Place) (name : List ℕ) : Type 0 where
  pub place : Place
  pub found : place_named name places ≡ Some place
  pub size_is : place.size ≡ size_of_parts name modules

place_of_key : (modules : List Contents) (name : List ℕ) (ps : List Place) (names : List (List ℕ)) → map place_key ps ≡ map (sized modules) names → list_any (bytes_eq name) names ≡ true → HasPlace modules ps name
place_of_key modules name [] [] e h = absurd cc
place_of_key modules name [] (n ∷ ns) e h = absurd cc
place_of_key modules name (p ∷ ps) [] e h = absurd cc
place_of_key modules name (p ∷ ps) (n ∷ ns) e h =
    let rest : map place_key ps ≡ map (sized modules) ns = cc in
    by_test (cc) (place_of_key modules name ps ns rest) (bytes_eq name n) refl h
  where
    by_test : place_key p ≡ sized modules n → (list_any (bytes_eq name) ns ≡ true → HasPlace modules ps name) → (t : Bool) → bytes_eq name n ≡ t → (t || list_any (bytes_eq name) ns) ≡ true → HasPlace modules (p ∷ ps) name
    by_test head after true t g =
        let same : name ≡ n = same_name name n t in
        let name_is : p.name ≡ n = ap (λ (k : Key). k.0) head in
        record {
          place = p;
          found = ap (λ b. cond b (Some p) (place_named name ps)) (ap (bytes_eq name) name_is ∙ t);
          size_is = ap (λ (k : Key). k.1) head ∙ ap (λ m. size_of_parts m modules) (sym same);
        }
    by_test head after false t g =
        let later = after g in
        let name_is : p.name ≡ n = ap (λ (k : Key). k.0) head in
        record {
          place = later.place;
          found = ap (λ b. cond b (Some p) (place_named name ps)) (ap (bytes_eq name) name_is ∙ t) ∙ later.found;
          size_is = later.size_is;
        }

-- ---- each section is asked for

skipped : (name : List ℕ) (p : PlacingData) (ps : List PlacingData) (b : Bool) → bytes_eq name p.name ≡ false → list_any (bytes_eq name) (map (λ q. q.name) (cond b (p ∷ ps) ps)) ≡ list_any (bytes_eq name) (map (λ q. q.name) ps)
skipped name p ps true h = ap (λ t. t || list_any (bytes_eq name) (map (λ (q : PlacingData). q.name) ps)) h
skipped name p ps false h = refl

listed_asked : (modules : List Contents) (name : List ℕ) (ps : List PlacingData) → is_there name modules ≡ true → list_any (bytes_eq name) (map (λ p. p.name) ps) ≡ true
    → (list_any (bytes_eq name) (map (λ p. p.name) (filter (comes_first modules) ps)) || list_any (bytes_eq name) (map (λ p. p.name) (filter (comes_later modules) ps))) ≡ true
listed_asked modules name [] there h = absurd cc
listed_asked modules name (p ∷ ps) there h = by_test (listed_asked modules name ps there) (bytes_eq name p.name) refl h where
  by_address : (a t : Bool) → bytes_eq name p.name ≡ true → t ≡ true
      → (list_any (bytes_eq name) (map (λ q. q.name) (cond (a && t) (p ∷ filter (comes_first modules) ps) (filter (comes_first modules) ps)))
      || list_any (bytes_eq name) (map (λ q. q.name) (cond (not a && t) (p ∷ filter (comes_later modules) ps) (filter (comes_later modules) ps)))) ≡ true
  by_address true true e u = ap (λ b. (b || list_any (bytes_eq name) (map (λ (q : PlacingData). q.name) (filter (comes_first modules) ps))) || list_any (bytes_eq name) (map (λ (q : PlacingData). q.name) (filter (comes_later modules) ps))) e
  by_address false true e u =
      ap (λ b. list_any (bytes_eq name) (map (λ (q : PlacingData). q.name) (filter (comes_first modules) ps)) || (b || list_any (bytes_eq name) (map (λ (q : PlacingData). q.name) (filter (comes_later modules) ps)))) e
      ∙ or_true (list_any (bytes_eq name) (map (λ (q : PlacingData). q.name) (filter (comes_first modules) ps)))
  by_address a false e u = absurd cc

  by_test : (list_any (bytes_eq name) (map (λ q. q.name) ps) ≡ true
      → (list_any (bytes_eq name) (map (λ q. q.name) (filter (comes_first modules) ps)) || list_any (bytes_eq name) (map (λ q. q.name) (filter (comes_later modules) ps))) ≡ true)
      → (t : Bool) → bytes_eq name p.name ≡ t → (t || list_any (bytes_eq name) (map (λ q. q.name) ps)) ≡ true
      → (list_any (bytes_eq name) (map (λ q. q.name) (filter (comes_first modules) (p ∷ ps))) || list_any (bytes_eq name) (map (λ q. q.name) (filter (comes_later modules) (p ∷ ps)))) ≡ true
  by_test after true t g = by_address (has_address p.target) (is_there p.name modules) t (ap (λ n. is_there n modules) (sym (same_name name p.name t)) ∙ there)
  by_test after false t g =
      ap (λ b. b || list_any (bytes_eq name) (map (λ (q : PlacingData). q.name) (filter (comes_later modules) (p ∷ ps)))) (skipped name p (filter (comes_first modules) ps) (comes_first modules p) t)
      ∙ ap (λ b. list_any (bytes_eq name) (map (λ (q : PlacingData). q.name) (filter (comes_first modules) ps)) || b) (skipped name p (filter (comes_later modules) ps) (comes_later modules p) t)
      ∙ after g

new_asked : (name : List ℕ) (seen names : List (List ℕ)) → is_among name names ≡ true → is_among name seen ≡ false → is_among name (new_names seen names) ≡ true
new_asked name seen [] h none = absurd cc
new_asked name seen (x ∷ xs) h none =
    by_tests (λ g. new_asked name seen xs g none) (new_asked name (x ∷ seen) xs) (bytes_eq name x) (is_among x seen) refl refl h
  where
    by_tests : (is_among name xs ≡ true → is_among name (new_names seen xs) ≡ true) → (is_among name xs ≡ true → is_among name (x ∷ seen) ≡ false → is_among name (new_names (x ∷ seen) xs) ≡ true)
        → (t s : Bool) → bytes_eq name x ≡ t → is_among x seen ≡ s → (t || is_among name xs) ≡ true → is_among name (cond s (new_names seen xs) (x ∷ new_names (x ∷ seen) xs)) ≡ true
    by_tests same more true true e f g = let other : is_among x seen ≡ false = subst (λ n. is_among n seen ≡ false) (same_name name x e) none in absurd cc
    by_tests same more true false e f g = ap (λ b. b || is_among name (new_names (x ∷ seen) xs)) e
    by_tests same more false true e f g = same g
    by_tests same more false false e f g =
        ap (λ b. bytes_eq name x || b) (more g (ap (λ b. b || is_among name seen) e ∙ none)) ∙ or_true (bytes_eq name x)

any_named : (name : List ℕ) (ss : List SectionData) → list_any (is_section_named name) ss ≡ true → is_among name (map (λ s. s.name) ss) ≡ true
any_named name [] h = h
any_named name (s ∷ ss) h = by_test (any_named name ss) (bytes_eq name s.name) h where
  by_test : (list_any (is_section_named name) ss ≡ true → is_among name (map (λ s. s.name) ss) ≡ true) → (t : Bool) → (t || list_any (is_section_named name) ss) ≡ true → (t || is_among name (map (λ s. s.name) ss)) ≡ true
  by_test after true g = refl
  by_test after false g = after g

asked : (modules : List Contents) (placings : List PlacingData) (name : List ℕ) → is_there name modules ≡ true → list_any (bytes_eq name) (request_names modules placings) ≡ true
asked modules placings name there = by_listed (list_any (bytes_eq name) (map (λ p. p.name) placings)) refl where
  by_listed : (b : Bool) → list_any (bytes_eq name) (map (λ p. p.name) placings) ≡ b → list_any (bytes_eq name) (request_names modules placings) ≡ true
  by_listed true e =
      let first = map (λ (p : PlacingData). p.name) (filter (comes_first modules) placings) in
      let later = map (λ (p : PlacingData). p.name) (filter (comes_later modules) placings) in
      list_any-append (bytes_eq name) (first ++ later) (unlisted_names modules placings)
      ∙ ap (λ b. b || list_any (bytes_eq name) (unlisted_names modules placings)) (list_any-append (bytes_eq name) first later ∙ listed_asked modules name placings there e)
  by_listed false e =
      let first = map (λ (p : PlacingData). p.name) (filter (comes_first modules) placings) in
      let later = map (λ (p : PlacingData). p.name) (filter (comes_later modules) placings) in
      list_any-append (bytes_eq name) (first ++ later) (unlisted_names modules placings)
      ∙ ap (λ b. list_any (bytes_eq name) (first ++ later) || b) (new_asked name (map (λ (p : PlacingData). p.name) placings) (map (λ (s : SectionData). s.name) (all_sections modules)) (any_named name (all_sections modules) there) e)
      ∙ or_true (list_any (bytes_eq name) (first ++ later))

pub place_of : (ranges : List RangeData) (modules : List Contents) (placings : List PlacingData) (places : List Place) (name : List ℕ) → ArePlaced ranges (requests modules placings) places → is_there name modules ≡ true → HasPlace modules places name
place_of ranges modules placings places name s there =
    place_of_key modules name places (request_names modules placings) (placed_keys ranges (requests modules placings) places s ∙ requests_keys modules placings) (asked modules placings name there)

-- ---- the sections of modules are there

pub any_section : (test : SectionData → Bool) (modules : List Contents) (number index : ℕ) (owner : Contents) (section : SectionData) → slice_get modules number ≡ Some owner → slice_get owner.sections index ≡ Some section → test section ≡ true → list_any test (all_sections modules) ≡ true
any_section test [] number index owner section h g t = absurd cc
any_section test (m ∷ ms) zero index owner section h g t =
    let same : m ≡ owner = cc in
    let here : list_any test m.sections ≡ true = any_passes_from_place test m.sections index section (subst (λ (o : Contents). slice_get o.sections index ≡ Some section) (sym same) g) t in
    ap (list_any test) (flat_map-cons (λ (c : Contents). c.sections) m ms) ∙ list_any-append test m.sections (all_sections ms) ∙ ap (λ b. b || list_any test (all_sections ms)) here
any_section test (m ∷ ms) (suc number) index owner section h g t =
    ap (list_any test) (flat_map-cons (λ (c : Contents). c.sections) m ms) ∙ list_any-append test m.sections (all_sections ms)
    ∙ ap (λ b. list_any test m.sections || b) (any_section test ms number index owner section h g t) ∙ or_true (list_any test m.sections)
