-- Definitions and parts by their names.
use Rattle.std.proofs.Common.{◌≡◌, ℕ, suc, ◌+◌, ◌<◌, Bool, true, false, ◌||◌, cond, List, [], ◌∷◌, ◌++◌, length, get_or, take, drop, map, filter, Option, Some, None, is_some, refl, sym, ap, subst, ◌∙◌, arith, append_assoc, add-one, All}
use Rattle.std.specs.Fmt.{decimal}
use Rattle.std.specs.List.{slice_get}
use Rattle.std.specs.Option.{option_map, option_map_or, option_or}
use Rattle.std.specs.Str.{bytes_eq}
use Rattle.std.proofs.Math.Seq.{drop-cons}
use Rattle.std.proofs.lemmas.List.{map-append, append-nil, take-append-drop}
use Rattle.std.proofs.lemmas.List.Elements.{filter-append, All-map}
use Rattle.std.proofs.lemmas.List.Folds.{find-append}
use Rattle.c25_meaning_linking.specs.GoodMap.{is_among}
use Rattle.c25_meaning_linking.specs.Linking.{first_again, section_part}
use Rattle.c25_meaning_linking.specs.MapText.{PartData}
use Rattle.c25_meaning_objects.specs.Module.{SectionData, Contents, body_size}
use Rattle.c25_meaning_linking.specs.Place.{Place, is_section_named, part_base}
use Rattle.c25_meaning_linking.specs.Words.{section_base, is_definition, definition, module_definitions, definitions, definition_of}
use Rattle.c25_meaning_linking.specs.Words as words
use Rattle.c25_meaning_linking.proofs.PlaceNames.{same_name}
use Rattle.c25_place.proofs.Listed.{unmapped}
use Rattle.c25_place.proofs.Sized.{turned}
use Rattle.c25_module.specs.View.{section_data, sections_data}
use Rattle.c25_module.specs.declared.parts.Section.{Section}
use Rattle.c25_link.specs.View.{definition_view, definitions_view, names_of}
use Rattle.c25_link.specs.declared.definitions.Definition.{Definition}
use Rattle.c25_link.proofs.Again.{again_some, again_none, or_false}
use Rattle.c25_link.proofs.Search.{all_by_modules, mapped_more}

-- ---- definitions

-- a name is among the definitions' just where one is found
among : (name : List ℕ) (ds : List words.Definition) → is_among name (names_of ds) ≡ is_some (definition_of name ds)
among name [] = refl
among name (d ∷ ds) = by_test (among name ds) (bytes_eq name d.symbol.name) where
  by_test : is_among name (names_of ds) ≡ is_some (definition_of name ds) → (t : Bool) → (t || is_among name (names_of ds)) ≡ is_some (cond t (Some d) (definition_of name ds))
  by_test after true = refl
  by_test after false = after

viewed : (o : Option Definition) → is_some (option_map definition_view o) ≡ is_some o
viewed None = refl
viewed (Some d) = refl

-- what is found so far
abbrev pub Finds : List Definition → (List ℕ → Option Definition) → Type 0
Finds ds found = (name : List ℕ) → option_map definition_view (found name) ≡ definition_of name (definitions_view ds)

among_before : (ds : List Definition) (found : List ℕ → Option Definition) (key : List ℕ) (t : Bool) → Finds ds found → is_some (found key) ≡ t → (is_among key (names_of (definitions_view ds)) || is_among key []) ≡ t
among_before ds found key t finds is =
    or_false (is_among key (names_of (definitions_view ds))) ∙ among key (definitions_view ds) ∙ ap is_some (sym (finds key)) ∙ viewed (found key) ∙ is

names_more : (ds : List Definition) (i : ℕ) (d : Definition) → i < length ds → d ≡ get_or ds i d → names_of (definitions_view (take (i + 1) ds)) ≡ names_of (definitions_view (take i ds)) ++ (definition_view d).symbol.name ∷ []
names_more ds i d lt at = ap names_of (mapped_more definition_view ds i d lt at) ∙ map-append (λ (x : words.Definition). x.symbol.name) (definitions_view (take i ds)) (definition_view d ∷ [])

names_split : (ds : List Definition) (i : ℕ) (d : Definition) → i < length ds → d ≡ get_or ds i d
    → names_of (definitions_view ds) ≡ names_of (definitions_view (take i ds)) ++ (definition_view d).symbol.name ∷ names_of (definitions_view (drop (i + 1) ds))
names_split ds i d lt at =
    let rest : drop i ds ≡ d ∷ drop (i + 1) ds = drop-cons ds i d lt ∙ ap (λ x. x ∷ drop (suc i) ds) (sym at) ∙ ap (λ n. d ∷ drop n ds) (sym (add-one i)) in
    ap (λ xs. names_of (definitions_view xs)) (sym (take-append-drop i ds))
    ∙ ap names_of (map-append definition_view (take i ds) (drop i ds))
    ∙ map-append (λ (x : words.Definition). x.symbol.name) (definitions_view (take i ds)) (definitions_view (drop i ds))
    ∙ ap (λ xs. names_of (definitions_view (take i ds)) ++ names_of (definitions_view xs)) rest

-- a name that stands twice
pub twice : (ds : List Definition) (found : List ℕ → Option Definition) (i : ℕ) (d : Definition) (key : List ℕ) → i < length ds → d ≡ get_or ds i d → key ≡ (definition_view d).symbol.name
    → first_again [] (names_of (definitions_view (take i ds))) ≡ None → Finds (take i ds) found → is_some (found key) ≡ true → first_again [] (names_of (definitions_view ds)) ≡ Some key
twice ds found i d key lt at called none finds there =
    let so_far = names_of (definitions_view (take i ds)) in
    let rest = names_of (definitions_view (drop (i + 1) ds)) in
    ap (first_again []) (names_split ds i d lt at ∙ ap (λ n. so_far ++ n ∷ rest) (sym called))
    ∙ again_some [] so_far rest key none (among_before (take i ds) found key true finds there)

-- a name that does not
pub once : (ds : List Definition) (found : List ℕ → Option Definition) (i : ℕ) (d : Definition) (key : List ℕ) → i < length ds → d ≡ get_or ds i d → key ≡ (definition_view d).symbol.name
    → first_again [] (names_of (definitions_view (take i ds))) ≡ None → Finds (take i ds) found → is_some (found key) ≡ false → first_again [] (names_of (definitions_view (take (i + 1) ds))) ≡ None
once ds found i d key lt at called none finds not_there =
    let so_far = names_of (definitions_view (take i ds)) in
    ap (first_again []) (names_more ds i d lt at ∙ ap (λ n. so_far ++ n ∷ []) (sym called))
    ∙ again_none [] so_far key none (among_before (take i ds) found key false finds not_there)

or_none : {A : Type 0} (o : Option A) → option_or o None ≡ o
or_none None = refl
or_none (Some x) = refl

not_found : {A : Type 0} (o : Option A) → is_some o ≡ false → o ≡ None
not_found None e = refl
not_found (Some x) e = absurd cc

found_more : (name : List ℕ) (ds : List words.Definition) (d : words.Definition) → is_some (definition_of d.symbol.name ds) ≡ false
    → definition_of name (ds ++ d ∷ []) ≡ cond (bytes_eq d.symbol.name name) (Some d) (definition_of name ds)
found_more name ds d fresh = find-append (λ (x : words.Definition). bytes_eq name x.symbol.name) ds (d ∷ []) ∙ by_test (bytes_eq name d.symbol.name) refl where
  by_test : (t : Bool) → bytes_eq name d.symbol.name ≡ t → option_or (definition_of name ds) (cond t (Some d) None) ≡ cond (bytes_eq d.symbol.name name) (Some d) (definition_of name ds)
  by_test true e =
      let none : definition_of name ds ≡ None = ap (λ n. definition_of n ds) (same_name name d.symbol.name e) ∙ not_found (definition_of d.symbol.name ds) fresh in
      ap (λ o. option_or o (Some d)) none ∙ ap (λ t. cond t (Some d) (definition_of name ds)) (sym (turned d.symbol.name name ∙ e))
  by_test false e = or_none (definition_of name ds) ∙ ap (λ t. cond t (Some d) (definition_of name ds)) (sym (turned d.symbol.name name ∙ e))

viewed_cond : (t : Bool) (d : Definition) (o : Option Definition) → option_map definition_view (cond t (Some d) o) ≡ cond t (Some (definition_view d)) (option_map definition_view o)
viewed_cond true d o = refl
viewed_cond false d o = refl

-- a definition more under a name that is new
pub found_next : (ds : List Definition) (found : List ℕ → Option Definition) (i : ℕ) (d : Definition) (key : List ℕ) (name : List ℕ) (new : Option Definition) → i < length ds → d ≡ get_or ds i d → key ≡ (definition_view d).symbol.name
    → Finds (take i ds) found → is_some (found key) ≡ false → new ≡ cond (bytes_eq key name) (Some d) (found name) → option_map definition_view new ≡ definition_of name (definitions_view (take (i + 1) ds))
found_next ds found i d key name new lt at called finds not_there e =
    let v = definition_view d in
    let so_far = definitions_view (take i ds) in
    let fresh : is_some (definition_of v.symbol.name so_far) ≡ false = ap (λ n. is_some (definition_of n so_far)) (sym called) ∙ ap is_some (sym (finds key)) ∙ viewed (found key) ∙ not_there in
    ap (option_map definition_view) e ∙ viewed_cond (bytes_eq key name) d (found name)
    ∙ ap (λ o. cond (bytes_eq key name) (Some v) o) (finds name)
    ∙ ap (λ n. cond (bytes_eq n name) (Some v) (definition_of name so_far)) called
    ∙ sym (found_more name so_far v fresh)
    ∙ ap (definition_of name) (sym (mapped_more definition_view ds i d lt at))

-- ---- parts

-- the parts of a name, with one section more
pub parts_more : (modules : List Contents) (places : List Place) (number : ℕ) (name : List ℕ) (ss : List Section) (i : ℕ) (s : Section) → i < length ss → s ≡ get_or ss i s
    → map (section_part modules places number) (filter (is_section_named name) (sections_data (take (i + 1) ss)))
    ≡ map (section_part modules places number) (filter (is_section_named name) (sections_data (take i ss)))
    ++ cond (bytes_eq name (section_data s).name) (section_part modules places number (section_data s) ∷ []) []
parts_more modules places number name ss i s lt at =
    let so_far = filter (is_section_named name) (sections_data (take i ss)) in
    ap (λ xs. map (section_part modules places number) (filter (is_section_named name) xs)) (mapped_more section_data ss i s lt at)
    ∙ ap (map (section_part modules places number)) (filter-append (is_section_named name) (sections_data (take i ss)) (section_data s ∷ []))
    ∙ map-append (section_part modules places number) so_far (filter (is_section_named name) (section_data s ∷ []))
    ∙ ap (λ zs. map (section_part modules places number) so_far ++ zs) (by_test (bytes_eq name (section_data s).name))
  where
    by_test : (t : Bool) → map (section_part modules places number) (cond t (section_data s ∷ []) []) ≡ cond t (section_part modules places number (section_data s) ∷ []) []
    by_test true = refl
    by_test false = refl

-- a part after those of its name
pub parts_next : (modules : List Contents) (places : List Place) (number : ℕ) (name : List ℕ) (ss : List Section) (i : ℕ) (s : Section) (key : List ℕ) (start old new : List PartData) (part : PartData) → i < length ss → s ≡ get_or ss i s → key ≡ (section_data s).name
    → part ≡ section_part modules places number (section_data s)
    → old ≡ start ++ map (section_part modules places number) (filter (is_section_named name) (sections_data (take i ss)))
    → new ≡ cond (bytes_eq key name) (old ++ part ∷ []) old
    → new ≡ start ++ map (section_part modules places number) (filter (is_section_named name) (sections_data (take (i + 1) ss)))
parts_next modules places number name ss i s key start old new part lt at called made before e =
    let p = section_part modules places number (section_data s) in
    let own = map (section_part modules places number) (filter (is_section_named name) (sections_data (take i ss))) in
    let turn : bytes_eq key name ≡ bytes_eq name (section_data s).name = ap (λ n. bytes_eq n name) called ∙ turned (section_data s).name name in
    e ∙ ap (λ t. cond t (old ++ part ∷ []) old) turn ∙ ap (λ x. cond (bytes_eq name (section_data s).name) (old ++ x ∷ []) old) made
    ∙ ap (λ xs. cond (bytes_eq name (section_data s).name) (xs ++ p ∷ []) xs) before
    ∙ by_test (bytes_eq name (section_data s).name)
    ∙ ap (λ zs. start ++ zs) (sym (parts_more modules places number name ss i s lt at))
  where
    p : PartData
    p = section_part modules places number (section_data s)

    own : List PartData
    own = map (section_part modules places number) (filter (is_section_named name) (sections_data (take i ss)))

    by_test : (t : Bool) → cond t ((start ++ own) ++ p ∷ []) (start ++ own) ≡ start ++ (own ++ cond t (p ∷ []) [])
    by_test true = append_assoc start own (p ∷ [])
    by_test false = ap (λ zs. start ++ zs) (sym (append-nil own))

-- a part as the map has it
pub part_made : (modules : List Contents) (places : List Place) (number : ℕ) (m : Contents) (index : ℕ) (s : SectionData) (base size : ℕ) → slice_get m.sections index ≡ Some s → base ≡ section_base modules places number m index → size ≡ body_size s.body
    → record { number = decimal number; base = base; size = size } ≡ section_part modules places number s
part_made modules places number m index s base size there is sized =
    let at : section_base modules places number m index ≡ part_base modules places number s.name = ap (λ (o : Option SectionData). option_map_or (λ x. part_base modules places number x.name) o 0) there in
    λ j. record { number = decimal number; base = (is ∙ at) j; size = sized j }

-- ---- the modules of definitions

pub owners : (modules : List Contents) → All (λ d. slice_get modules d.number ≡ Some d.owner) (definitions modules)
owners modules =
    all_by_modules (λ (d : words.Definition). slice_get modules d.number ≡ Some d.owner) module_definitions 0 modules (λ k m is.
    let same : k ≡ 0 + k = omega arith in
    let there : slice_get modules (0 + k) ≡ Some m = subst (λ n. slice_get modules n ≡ Some m) same is in
    All-map (λ (d : words.Definition). slice_get modules d.number ≡ Some d.owner) (definition (0 + k) m) (filter is_definition m.symbols) (λ i y lt. there))

-- that of one definition
pub owner_at : (modules : List Contents) (ds : List Definition) (i : ℕ) (d : Definition) → definitions_view ds ≡ definitions modules → i < length ds → d ≡ get_or ds i d → slice_get modules (definition_view d).number ≡ Some (definition_view d).owner
owner_at modules ds i d are lt at =
    let each : All (λ (x : words.Definition). slice_get modules x.number ≡ Some x.owner) (definitions_view ds) = subst (All (λ (x : words.Definition). slice_get modules x.number ≡ Some x.owner)) (sym are) (owners modules) in
    subst (λ (x : Definition). slice_get modules (definition_view x).number ≡ Some (definition_view x).owner) (sym at)
    (unmapped (λ (x : words.Definition). slice_get modules x.number ≡ Some x.owner) definition_view ds each i d lt)
