-- Lists that the code makes, one item more at a time.
use Rattle.std.proofs.Common.{◌≡◌, ℕ, ◌+◌, ◌<◌, Bool, true, false, cond, List, [], ◌∷◌, ◌++◌, length, get_or, take, map, filter, refl, sym, ap, ◌∙◌}
use Rattle.std.proofs.lemmas.List.{append-nil, append_assoc, map-append, take_more}
use Rattle.std.proofs.lemmas.List.Elements.{filter-append}
use Rattle.c25_cmd.specs.View.{placing_of, placings_of}
use Rattle.c25_cmd.specs.declared.command.Placing.{Placing}
use Rattle.c25_meaning_linking.proofs.ByModules.{by_modules_more}
use Rattle.c25_meaning_linking.specs.Linking.{is_unresolved, use_of}
use Rattle.c25_meaning_linking.specs.Place.{all_sections, by_modules}
use Rattle.c25_meaning_linking.specs.Words as words
use Rattle.c25_meaning_objects.specs.Module.{Contents, SectionData, has_words}
use Rattle.c25_meaning_objects.specs.declared.object.Relocation.{Relocation}
use Rattle.c25_module.specs.View.{section_data, sections_data}
use Rattle.c25_module.specs.declared.parts.Section.{Section}
use Rattle.c25_place.proofs.Listed.{mapped_more}
use Rattle.c25_link_faults.specs.Faults.{used_name}
use Rattle.c25_link_faults.specs.View.{definition_view, definitions_view, loaded_names, names_of, placing_names, section_names}
use Rattle.c25_link_faults.specs.declared.definitions.Definition.{Definition}

-- what passes a test, with one item more
pub kept_more : {A B : Type 0} (f : A → B) (test : A → Bool) (xs : List A) (y : A) → map f (filter test (xs ++ y ∷ [])) ≡ map f (filter test xs) ++ cond (test y) (f y ∷ []) []
kept_more f test xs y = ap (map f) (filter-append test xs (y ∷ [])) ∙ map-append f (filter test xs) (cond (test y) (y ∷ []) []) ∙ ap (λ zs. map f (filter test xs) ++ zs) (by (test y)) where
  by : (b : Bool) → map f (cond b (y ∷ []) []) ≡ cond b (f y ∷ []) []
  by true = refl
  by false = refl

-- what passes a test of what modules give, with one module more
pub gathered_more : {A B : Type 0} (f : A → B) (test : A → Bool) (g : ℕ → Contents → List A) (modules : List Contents) (i : ℕ) (m : Contents) → i < length modules → m ≡ get_or modules i m
    → map f (filter test (by_modules g 0 (take (i + 1) modules))) ≡ map f (filter test (by_modules g 0 (take i modules))) ++ map f (filter test (g i m))
gathered_more f test g modules i m lt is =
    ap (λ zs. map f (filter test zs)) (by_modules_more g modules i m lt is)
    ∙ ap (map f) (filter-append test (by_modules g 0 (take i modules)) (g i m))
    ∙ map-append f (filter test (by_modules g 0 (take i modules))) (filter test (g i m))

-- the names of definitions
pub names_next : (ds : List Definition) (i : ℕ) (d : Definition) (name : List ℕ) → i < length ds → d ≡ get_or ds i d → name ≡ (definition_view d).symbol.name
    → names_of (definitions_view (take (i + 1) ds)) ≡ names_of (definitions_view (take i ds)) ++ name ∷ []
names_next ds i d name lt is called =
    ap names_of (mapped_more definition_view ds i d lt)
    ∙ map-append (λ (x : words.Definition). x.symbol.name) (definitions_view (take i ds)) (definition_view (get_or ds i d) ∷ [])
    ∙ ap (λ n. names_of (definitions_view (take i ds)) ++ n ∷ []) (sym (called ∙ ap (λ x. (definition_view x).symbol.name) is))

-- the undefined names that relocations count from
pub uses_next : (ds : List words.Definition) (number : ℕ) (m : Contents) (rs : List Relocation) (i : ℕ) (d : Relocation) → i < length rs
    → map used_name (filter (is_unresolved ds) (map (use_of number m) (take (i + 1) rs)))
    ≡ map used_name (filter (is_unresolved ds) (map (use_of number m) (take i rs))) ++ cond (is_unresolved ds (use_of number m (get_or rs i d))) (used_name (use_of number m (get_or rs i d)) ∷ []) []
uses_next ds number m rs i d lt =
    ap (λ us. map used_name (filter (is_unresolved ds) us)) (mapped_more (use_of number m) rs i d lt)
    ∙ kept_more used_name (is_unresolved ds) (map (use_of number m) (take i rs)) (use_of number m (get_or rs i d))

-- the names of sections
pub sections_next : (ss : List Section) (i : ℕ) (s : Section) → i < length ss → s ≡ get_or ss i s
    → section_names (sections_data (take (i + 1) ss)) ≡ section_names (sections_data (take i ss)) ++ (section_data s).name ∷ []
sections_next ss i s lt is =
    ap section_names (mapped_more section_data ss i s lt)
    ∙ map-append (λ (x : SectionData). x.name) (sections_data (take i ss)) (section_data (get_or ss i s) ∷ [])
    ∙ ap (λ x. section_names (sections_data (take i ss)) ++ (section_data x).name ∷ []) (sym is)

pub loaded_next : (ss : List Section) (i : ℕ) (s : Section) → i < length ss → s ≡ get_or ss i s
    → loaded_names (sections_data (take (i + 1) ss)) ≡ loaded_names (sections_data (take i ss)) ++ cond (has_words (section_data s).body) ((section_data s).name ∷ []) []
loaded_next ss i s lt is =
    ap loaded_names (mapped_more section_data ss i s lt)
    ∙ kept_more (λ (x : SectionData). x.name) (λ x. has_words x.body) (sections_data (take i ss)) (section_data (get_or ss i s))
    ∙ ap (λ x. loaded_names (sections_data (take i ss)) ++ cond (has_words (section_data x).body) ((section_data x).name ∷ []) []) (sym is)

-- the sections of modules
flat : (xs ys : List Contents) → all_sections (xs ++ ys) ≡ all_sections xs ++ all_sections ys
flat [] ys = refl
flat (x ∷ xs) ys = ap (λ zs. x.sections ++ zs) (flat xs ys) ∙ sym (append_assoc x.sections (all_sections xs) (all_sections ys))

pub modules_next : (modules : List Contents) (i : ℕ) (m : Contents) → i < length modules → m ≡ get_or modules i m → all_sections (take (i + 1) modules) ≡ all_sections (take i modules) ++ m.sections
modules_next modules i m lt is =
    ap all_sections (take_more modules i m lt) ∙ flat (take i modules) (get_or modules i m ∷ [])
    ∙ ap (λ (x : Contents). all_sections (take i modules) ++ (x.sections ++ [])) (sym is) ∙ ap (λ zs. all_sections (take i modules) ++ zs) (append-nil m.sections)

pub names_joined : (xs ys : List SectionData) → section_names (xs ++ ys) ≡ section_names xs ++ section_names ys
names_joined xs ys = map-append (λ (x : SectionData). x.name) xs ys

pub loaded_joined : (xs ys : List SectionData) → loaded_names (xs ++ ys) ≡ loaded_names xs ++ loaded_names ys
loaded_joined xs ys =
    ap section_names (filter-append (λ (x : SectionData). has_words x.body) xs ys)
    ∙ map-append (λ (x : SectionData). x.name) (filter (λ (x : SectionData). has_words x.body) xs) (filter (λ (x : SectionData). has_words x.body) ys)

-- the names of listed sections
pub placings_next : (ps : List Placing) (i : ℕ) (p : Placing) (name : List ℕ) → i < length ps → p ≡ get_or ps i p → name ≡ (placing_of p).name
    → placing_names (placings_of (take (i + 1) ps)) ≡ placing_names (placings_of (take i ps)) ++ name ∷ []
placings_next ps i p name lt is called =
    ap placing_names (mapped_more placing_of ps i p lt)
    ∙ map-append (λ x. x.name) (placings_of (take i ps)) (placing_of (get_or ps i p) ∷ [])
    ∙ ap (λ n. placing_names (placings_of (take i ps)) ++ n ∷ []) (sym (called ∙ ap (λ x. (placing_of x).name) is))
