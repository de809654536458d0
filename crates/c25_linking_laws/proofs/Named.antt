-- The names of a program's sections and symbols are names, and its sections are small.
use Rattle.std.proofs.Common.{◌≡◌, ℕ, suc, ◌+◌, ◌≤◌, Bool, true, false, not, ◌&&◌, ◌||◌, cond, List, [], ◌∷◌, ◌++◌, length, map, filter, find, Option, Some, None, Ok, All, refl, sym, ap, subst, ◌∙◌, arith}
use Rattle.std.specs.Prelude.{is_none, nat_le, nat_lt, IfSome}
use Rattle.std.specs.List.{list_any, slice_get}
use Rattle.std.specs.Str.{bytes_eq}
use Rattle.std.proofs.lemmas.Bool.{and_parts, leb-true}
use Rattle.std.proofs.lemmas.List.Concat.{flat_map-cons}
use Rattle.std.proofs.lemmas.List.Elements.{All-nil, All-cons, All-head, All-tail, All-same, All-append, All-map, All-filter, All-weaker, filter_passes}
use Rattle.std.proofs.lemmas.Option.{slice_get_within, get_or_from_slice_get}
use Rattle.c25_meaning_linking.proofs.Parts.{sections_of_module}
use Rattle.c25_meaning_linking.proofs.PlaceNames.{same_name}
use Rattle.c25_meaning_linking.specs.Command.{PlacingData}
use Rattle.c25_meaning_linking.specs.GoodMap.{Request, listed_request, unlisted_request, has_address, comes_first, comes_later, is_among, new_names, unlisted_names, requests}
use Rattle.c25_meaning_linking.specs.Linking.{names_checked, first_again, defined_names, first_unresolved, missing_entry, refused_with}
use Rattle.c25_meaning_objects.specs.Module.{SectionData, SymbolData, Contents, IsModule, is_module, lists_fit, has_sections, each_fits, section_fits, symbol_fits, symbol_stands, kind_allowed, place_fits, has_section, has_symbol, begins_sections, body_size, is_section_name, is_symbol_name}
use Rattle.c25_meaning_objects.specs.declared.object.Version.{Version}
use Rattle.c25_meaning_linking.specs.Place.{by_modules, all_sections, is_section_named, is_there}
use Rattle.c25_meaning_common.specs.Results.{◌>>=◌}
use Rattle.c25_meaning_linking.specs.Words.{Definition, definition, definitions, definition_of, is_definition, module_definitions}
use Rattle.c25_meaning_linking.specs.declared.link_fault.LinkFault.TheVariants.{Unresolved, DefinedTwice, NoEntry}

-- ---- the lists of one module

-- what holds of each item that may follow those before it
each_holds : {A : Type 0} (fits : List A → A → Bool) (P : A → Type 0) → ((before : List A) (x : A) → fits before x ≡ true → P x) → (before xs : List A) → each_fits fits before xs ≡ true → All P xs
each_holds fits P holds before [] e = All-nil P
each_holds fits P holds before (x ∷ xs) e =
    let h = and_parts (fits before x) (each_fits fits (before ++ x ∷ []) xs) e in
    All-cons P x xs (holds before x h.0) (each_holds fits P holds (before ++ x ∷ []) xs h.1)

-- a section's name is a name, and the section is small
pub record IsFine (s : SectionData) : Type 0 where
  pub name : is_section_name s.name ≡ true
  pub size : body_size s.body ≤ 65536

fine_section : (before : List SectionData) (s : SectionData) → section_fits before s ≡ true → IsFine s
fine_section before s e =
    let a = and_parts (is_section_name s.name && nat_le (body_size s.body) 65536 && begins_sections before s && not (has_section before s.name)) (nat_lt (length before) 255) e in
    let b = and_parts (is_section_name s.name && nat_le (body_size s.body) 65536 && begins_sections before s) (not (has_section before s.name)) a.0 in
    let c = and_parts (is_section_name s.name && nat_le (body_size s.body) 65536) (begins_sections before s) b.0 in
    let d = and_parts (is_section_name s.name) (nat_le (body_size s.body) 65536) c.0 in
    record { name = d.0; size = leb-true (body_size s.body) 65536 d.1 }

pub fine_sections : (c : Contents) → IsModule c → All IsFine c.sections
fine_sections c is = each_holds section_fits IsFine fine_section [] c.sections (sections_of_module c is.lists)

-- a symbol's name is a name
abbrev IsNamed : SymbolData → Type 0
IsNamed y = is_symbol_name y.name ≡ true

named_symbol : (version : Version) (sections : List SectionData) (before : List SymbolData) (y : SymbolData) → symbol_fits version sections before y ≡ true → IsNamed y
named_symbol version sections before y e =
    let a = and_parts (symbol_stands version sections y && not (has_symbol before y.name)) (nat_lt (length before) 65535) e in
    let b = and_parts (symbol_stands version sections y) (not (has_symbol before y.name)) a.0 in
    let d = and_parts (is_symbol_name y.name && kind_allowed version y.kind) (place_fits sections y y.kind) b.0 in
    (and_parts (is_symbol_name y.name) (kind_allowed version y.kind) d.0).0

symbols_of_module : (c : Contents) → is_module c ≡ true → each_fits (symbol_fits c.version c.sections) [] c.symbols ≡ true
symbols_of_module c h = (and_parts _ _ (and_parts _ _ (and_parts _ _ (and_parts (has_sections c) (lists_fit c) h).1).1).1).0

named_symbols : (c : Contents) → IsModule c → All IsNamed c.symbols
named_symbols c is = each_holds (symbol_fits c.version c.sections) IsNamed (named_symbol c.version c.sections) [] c.symbols (symbols_of_module c is.lists)

-- ---- all modules

pub module_at : (modules : List Contents) (k : ℕ) (m : Contents) → All IsModule modules → slice_get modules k ≡ Some m → IsModule m
module_at modules k m are e = subst IsModule (get_or_from_slice_get modules k m m e) (are k m (slice_get_within modules k m e))

pub all_by_modules : {A : Type 0} (P : A → Type 0) (g : ℕ → Contents → List A) (number : ℕ) (modules : List Contents) → ((k : ℕ) (m : Contents) → slice_get modules k ≡ Some m → All P (g (number + k) m)) → All P (by_modules g number modules)
all_by_modules P g number [] h = All-nil P
all_by_modules P g number (m ∷ modules) h =
    let same : number + 0 ≡ number = omega arith in
    All-append P (g number m) (by_modules g (number + 1) modules) (subst (λ n. All P (g n m)) same (h 0 m refl))
    (all_by_modules P g (number + 1) modules (λ k o is. let z : number + suc k ≡ (number + 1) + k = omega arith in subst (λ n. All P (g n o)) z (h (suc k) o is)))

fine_in_all : (modules : List Contents) → All IsModule modules → All IsFine (all_sections modules)
fine_in_all [] are = All-nil IsFine
fine_in_all (m ∷ modules) are =
    All-same IsFine (all_sections (m ∷ modules)) (m.sections ++ all_sections modules) (flat_map-cons (λ (c : Contents). c.sections) m modules)
    (All-append IsFine m.sections (all_sections modules) (fine_sections m (All-head IsModule m modules are)) (fine_in_all modules (All-tail IsModule m modules are)))

-- ---- the sections that are to be placed

abbrev IsName : List ℕ → Type 0
IsName name = is_section_name name ≡ true

-- a name that a section has
name_there : (name : List ℕ) (ss : List SectionData) → All IsFine ss → list_any (is_section_named name) ss ≡ true → IsName name
name_there name [] all e = absurd cc
name_there name (s ∷ ss) all e = by_test (name_there name ss (All-tail IsFine s ss all)) (bytes_eq name s.name) refl e where
  by_test : (list_any (is_section_named name) ss ≡ true → IsName name) → (t : Bool) → bytes_eq name s.name ≡ t → (t || list_any (is_section_named name) ss) ≡ true → IsName name
  by_test later true t g = ap is_section_name (same_name name s.name t) ∙ (All-head IsFine s ss all).name
  by_test later false t g = later g

new_are_names : (seen names : List (List ℕ)) → All IsName names → All IsName (new_names seen names)
new_are_names seen [] all = All-nil IsName
new_are_names seen (name ∷ names) all =
    by_test (new_are_names seen names (All-tail IsName name names all)) (new_are_names (name ∷ seen) names (All-tail IsName name names all)) (is_among name seen)
  where
    by_test : All IsName (new_names seen names) → All IsName (new_names (name ∷ seen) names) → (t : Bool) → All IsName (cond t (new_names seen names) (name ∷ new_names (name ∷ seen) names))
    by_test same more true = same
    by_test same more false = All-cons IsName name (new_names (name ∷ seen) names) (All-head IsName name names all) more

-- the section has a name
abbrev pub IsNamedRequest : Request → Type 0
IsNamedRequest r = IsName r.name

pub named_requests : (modules : List Contents) (placings : List PlacingData) → All IsModule modules → All IsNamedRequest (requests modules placings)
named_requests modules placings are =
    let fine = fine_in_all modules are in
    let first = filter (comes_first modules) placings in
    let later = filter (comes_later modules) placings in
    let others = unlisted_names modules placings in
    All-append IsNamedRequest (map (listed_request modules) first ++ map (listed_request modules) later) (map (unlisted_request modules) others)
    (All-append IsNamedRequest (map (listed_request modules) first) (map (listed_request modules) later)
    (All-map IsNamedRequest (listed_request modules) first
    (All-weaker (λ (p : PlacingData). comes_first modules p ≡ true) (λ (p : PlacingData). IsName p.name)
    (λ p e. name_there p.name (all_sections modules) fine (and_parts (has_address p.target) (is_there p.name modules) e).1) first (filter_passes (comes_first modules) placings)))
    (All-map IsNamedRequest (listed_request modules) later
    (All-weaker (λ (p : PlacingData). comes_later modules p ≡ true) (λ (p : PlacingData). IsName p.name)
    (λ p e. name_there p.name (all_sections modules) fine (and_parts (not (has_address p.target)) (is_there p.name modules) e).1) later (filter_passes (comes_later modules) placings))))
    (All-map IsNamedRequest (unlisted_request modules) others
    (new_are_names (map (λ (p : PlacingData). p.name) placings) (map (λ (s : SectionData). s.name) (all_sections modules))
    (All-map IsName (λ (s : SectionData). s.name) (all_sections modules) (All-weaker IsFine (λ (s : SectionData). IsName s.name) (λ s f. f.name) (all_sections modules) fine))))

-- ---- global symbols and the entry

-- the symbol has a name
abbrev pub IsNamedDefinition : Definition → Type 0
IsNamedDefinition d = IsNamed d.symbol

pub named_definitions : (modules : List Contents) → All IsModule modules → All IsNamedDefinition (definitions modules)
named_definitions modules are =
    all_by_modules IsNamedDefinition module_definitions 0 modules (λ k m e.
    All-map IsNamedDefinition (definition (0 + k) m) (filter is_definition m.symbols) (All-filter is_definition IsNamed m.symbols (named_symbols m (module_at modules k m are e))))

-- what is found holds what all do, and passes the test
found_passes : {A : Type 0} (P : A → Type 0) (test : A → Bool) (xs : List A) (x : A) → All P xs → find test xs ≡ Some x → P x × (test x ≡ true)
found_passes P test [] x all e = absurd cc
found_passes P test (y ∷ ys) x all e = by_test (found_passes P test ys x (All-tail P y ys all)) (test y) refl e where
  by_test : (find test ys ≡ Some x → P x × (test x ≡ true)) → (t : Bool) → test y ≡ t → cond t (Some y) (find test ys) ≡ Some x → P x × (test x ≡ true)
  by_test after true t g = let same : y ≡ x = cc in (subst P same (All-head P y ys all), ap test (sym same) ∙ t)
  by_test after false t g = after g

pub found_holds : {A : Type 0} (P : A → Type 0) (test : A → Bool) (xs : List A) (x : A) → All P xs → find test xs ≡ Some x → P x
found_holds P test xs x all e = (found_passes P test xs x all e).0

-- where the names of symbols are checked, the entry is not a missing one
entry_there : (modules : List Contents) (entry : Option (List ℕ)) → names_checked modules entry ≡ Ok tt → missing_entry (definitions modules) entry ≡ None
entry_there modules entry e = by_names (first_again [] (defined_names modules)) (first_unresolved modules) (missing_entry (definitions modules) entry) e where
  by_names : (a b c : Option (List ℕ)) → (refused_with DefinedTwice a >>= λ _. refused_with Unresolved b >>= λ _. refused_with NoEntry c) ≡ Ok tt → c ≡ None
  by_names None None None g = refl
  by_names None None (Some n) g = absurd cc
  by_names None (Some n) c g = absurd cc
  by_names (Some n) b c g = absurd cc

entry_found : (ds : List Definition) (entry : Option (List ℕ)) → All IsNamedDefinition ds → missing_entry ds entry ≡ None → IfSome entry (λ name. is_symbol_name name ≡ true)
entry_found ds None all e = tt
entry_found ds (Some name) all e = by_found (definition_of name ds) refl e where
  by_found : (o : Option Definition) → definition_of name ds ≡ o → cond (is_none o) (Some name) None ≡ None → is_symbol_name name ≡ true
  by_found None f g = absurd cc
  by_found (Some d) f g =
      let h = found_passes IsNamedDefinition (λ (x : Definition). bytes_eq name x.symbol.name) ds d all f in
      ap is_symbol_name (same_name name d.symbol.name h.1) ∙ h.0

pub named_entry : (modules : List Contents) (entry : Option (List ℕ)) → All IsModule modules → names_checked modules entry ≡ Ok tt → IfSome entry (λ name. is_symbol_name name ≡ true)
named_entry modules entry are e = entry_found (definitions modules) entry (named_definitions modules are) (entry_there modules entry e)
