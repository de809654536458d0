-- The value of a name that a source exports is that of the source's own entry.
use Rattle.std.proofs.Common.{◌≡◌, ℕ, suc, zero, ◌+◌, Bool, true, false, cond, ◌&&◌, List, [], ◌∷◌, ◌++◌, length, map, filter, Option, Some, None, Ok, ℤ, pos, refl, sym, ap, ◌∙◌, subst, arith, inl, inr}
use Rattle.std.specs.List.{AllByRecursion, Contains, slice_get}
use Rattle.std.specs.Option.{option_map_or}
use Rattle.std.specs.Str.{bytes_eq}
use Rattle.std.proofs.lemmas.List.Elements.{Contains-append_left, Contains-append_right}
use Rattle.std.proofs.lemmas.Slice.Eq.{bytes_eq-Decides}
use Rattle.c25_meaning_assembly.specs.Emission.{all_names, kind_of, numbered, scope_of, symbol_of}
use Rattle.c25_meaning_assembly.proofs.Distinct.{neither}
use Rattle.c25_meaning_assembly.specs.Sections.{Definitions, Progress, imports, is_in}
use Rattle.c25_meaning_common.specs.Results.{◌>>=◌}
use Rattle.c25_meaning_expansion.specs.Files.{Files}
use Rattle.c25_meaning_language.specs.Tree.{Tree}
use Rattle.c25_meaning_language.specs.Value.{defined}
use Rattle.c25_meaning_language.specs.declared.statement.Field.{Field}
use Rattle.c25_meaning_language.specs.declared.value.Base.{Base}
use Rattle.c25_meaning_language.specs.declared.value.Base.TheVariants.{Absolute, Section, Loaded, External}
use Rattle.c25_meaning_language.specs.declared.value.Value.{Value}
use Rattle.c25_meaning_linking.specs.GoodMap.{is_among}
use Rattle.c25_meaning_linking.specs.Linking.{defined_names, first_again, first_unresolved, missing_entry, names_checked, refused_with}
use Rattle.c25_meaning_linking.specs.Place.{Place, by_modules}
use Rattle.c25_meaning_linking.specs.Words.{Definition, definition, definition_of, definition_value, definitions, is_defined, is_definition, module_definitions, name_value, section_run}
use Rattle.c25_meaning_linking.specs.declared.link_fault.LinkFault.TheVariants.{Unresolved, DefinedTwice, NoEntry}
use Rattle.c25_meaning_objects.specs.Module.{Contents, SymbolData, is_global}
use Rattle.c25_meaning_objects.specs.declared.object.SymbolKind.{SymbolKind}
use Rattle.c25_meaning_objects.specs.declared.object.SymbolKind.TheVariants as symbol
use Rattle.c25_linking_laws.proofs.Members.{each_in, in_filter, in_front, in_map, nothing_in}
use Rattle.c25_module_laws.proofs.Kept.{IsInside}
use Rattle.c25_module_laws.proofs.Spoken.{IsSymbol}
use Rattle.c25_module_laws.proofs.Valued.{IsGoodValue}
use Rattle.c25_laws.proofs.StatementsUnder.{ComesFrom, comes_from}
use Rattle.c25_laws.specs.ProgramStatements.{AreModulesOf, lines_in}
use Rattle.c25_laws.specs.SourceValues.{field_value, is_address, is_place, name_by, name_under, operand_number, own_name, placed, value_under}
use Rattle.c25_statement_laws.specs.ExportedNames.{IsExported, exported_entry, exported_from, exported_value, name_from, number_from, placed_or}

-- ---- one module

-- the value of a name among these definitions
abbrev value_in : List Contents → List Place → List ℕ → List Definition → ℤ
value_in modules places text ds = option_map_or (definition_value modules places) (definition_of text ds) (pos 0)

-- names of other modules are no definitions
none_imported : (exported : List (List ℕ)) (n : ℕ) (ds : List (List ℕ)) → filter is_definition (map (symbol_of exported) (numbered n ds)) ≡ []
none_imported exported n [] = refl
none_imported exported n (d ∷ ds) = by (is_global (scope_of (is_in exported d))) (none_imported exported (n + 1) ds)
  where
    by : (b : Bool) → filter is_definition (map (symbol_of exported) (numbered (n + 1) ds)) ≡ []
        → cond (b && false) (symbol_of exported (d, record { base = External n; offset = pos 0 }) ∷ filter is_definition (map (symbol_of exported) (numbered (n + 1) ds))) (filter is_definition (map (symbol_of exported) (numbered (n + 1) ds))) ≡ []
    by true rest = rest
    by false rest = rest

inside_defined : (n : ℕ) (b : Base) → IsInside n b → (x : Bool) → (is_global (scope_of x) && is_defined (kind_of b)) ≡ x
inside_defined n Absolute h true = refl
inside_defined n Absolute h false = refl
inside_defined n (Section k) h true = refl
inside_defined n (Section k) h false = refl
inside_defined n (Loaded k) h true = refl
inside_defined n (Loaded k) h false = refl
inside_defined n (External k) h x = absurd h

no_entry : (b : Bool) → ◌≡◌ {A = Option Value} (cond b None None) None
no_entry true = refl
no_entry false = refl

-- an entry, if all modules see the name
abbrev entries : List ℕ → Bool → Definitions → Option Value
entries text seen es = cond seen (defined es text) None

module _ (modules : List Contents) (places : List Place) (number : ℕ) (m : Contents) where
  placed_is : (n : ℕ) (b : Base) (z : ℤ) (exported : List (List ℕ)) (name : List ℕ) → IsInside n b
      → definition_value modules places (definition number m (symbol_of exported (name, record { base = b; offset = z }))) ≡ placed modules places number m b z
  placed_is n Absolute z exported name h = refl
  placed_is n (Section k) z exported name h = refl
  placed_is n (Loaded k) z exported name h = refl
  placed_is n (External k) z exported name h = absurd h

  module _ (n : ℕ) (exported : List (List ℕ)) (text : List ℕ) (ys : List Definition) where
    abbrev own : Definitions → List Definition
    own es = map (definition number m) (filter is_definition (map (symbol_of exported) es))

    abbrev or_other : Option Value → ℤ
    or_other o = placed_or modules places number m o (value_in modules places text ys)

    -- the value of a name among the definitions of a module and others
    module_value : (names : Definitions) (k : ℕ) (ds : List (List ℕ)) → AllByRecursion (λ e. IsSymbol e.0 × IsGoodValue (IsInside n) e.1) names
        → value_in modules places text (own (names ++ numbered k ds) ++ ys) ≡ or_other (cond (is_in exported text) (defined names text) None)
    module_value [] k ds good =
        ap (λ (yss : List SymbolData). value_in modules places text (map (definition number m) yss ++ ys)) (none_imported exported k ds)
        ∙ sym (ap or_other (no_entry (is_in exported text)))
    module_value (x ∷ xs) k ds good = by (is_in exported x.0) refl (module_value xs k ds good.1)
      where
        rest : List SymbolData
        rest = filter is_definition (map (symbol_of exported) (xs ++ numbered k ds))

        tested : is_definition (symbol_of exported x) ≡ is_in exported x.0
        tested = inside_defined n x.1.base good.0.1.0 (is_in exported x.0)

        -- the name is another
        other : bytes_eq text x.0 ≡ false → defined (x ∷ xs) text ≡ defined xs text
        other e = ap (λ b. cond b (Some x.1) (defined xs text)) e

        skipped : (b : Bool) → bytes_eq text x.0 ≡ b → is_in exported x.0 ≡ false → entries text (is_in exported text) (x ∷ xs) ≡ entries text (is_in exported text) xs
        skipped true e none =
            let same : text ≡ x.0 = (bytes_eq-Decides text x.0).0 e in
            let bare : is_in exported text ≡ false = ap (is_in exported) same ∙ none in
            ap (λ b. entries text b (x ∷ xs)) bare ∙ sym (ap (λ b. entries text b xs) bare)
        skipped false e none = ap (λ o. cond (is_in exported text) o None) (other e)

        first : (b : Bool) → bytes_eq text x.0 ≡ b → is_in exported x.0 ≡ true → value_in modules places text (map (definition number m) rest ++ ys) ≡ or_other (entries text (is_in exported text) xs)
            → option_map_or (definition_value modules places) (cond b (Some (definition number m (symbol_of exported x))) (definition_of text (map (definition number m) rest ++ ys))) (pos 0)
            ≡ or_other (entries text (is_in exported text) (x ∷ xs))
        first true e seen go =
            let same : text ≡ x.0 = (bytes_eq-Decides text x.0).0 e in
            let there : is_in exported text ≡ true = ap (is_in exported) same ∙ seen in
            placed_is n x.1.base x.1.offset exported x.0 good.0.1.0
            ∙ sym (ap or_other (ap (λ b. entries text b (x ∷ xs)) there ∙ ap (λ b. cond b (Some x.1) (defined xs text)) e))
        first false e seen go = go ∙ sym (ap or_other (ap (λ o. cond (is_in exported text) o None) (other e)))

        by : (b : Bool) → is_in exported x.0 ≡ b → value_in modules places text (map (definition number m) rest ++ ys) ≡ or_other (entries text (is_in exported text) xs)
            → value_in modules places text (own (x ∷ xs ++ numbered k ds) ++ ys) ≡ or_other (entries text (is_in exported text) (x ∷ xs))
        by true seen go =
            ap (λ b. value_in modules places text (map (definition number m) (cond b (symbol_of exported x ∷ rest) rest) ++ ys)) (tested ∙ seen)
            ∙ first (bytes_eq text x.0) refl seen go
        by false none go =
            ap (λ b. value_in modules places text (map (definition number m) (cond b (symbol_of exported x ∷ rest) rest) ++ ys)) (tested ∙ none)
            ∙ go ∙ sym (ap or_other (skipped (bytes_eq text x.0) refl none))

-- ---- all modules

module _ (modules : List Contents) (places : List Place) (files : Files) (text : List ℕ) where
  source_value : (number : ℕ) (name : List ℕ) (m : Contents) (ys : List Definition) → ComesFrom files name m
      → value_in modules places text (module_definitions number m ++ ys) ≡ placed_or modules places number m (exported_entry (lines_in files name) text) (value_in modules places text ys)
  source_value number name m ys h =
      let p = h.progress in
      ap (λ (yss : List SymbolData). value_in modules places text (map (definition number m) (filter is_definition yss) ++ ys)) (ap (λ (c : Contents). c.symbols) h.module_is)
      ∙ module_value modules places number m (length p.sections) p.exported text ys p.names (length p.names) (imports p.names p.declared) ((h.kept).kept).names.symbols
      ∙ sym (ap (λ (q : Progress). placed_or modules places number m (exported_entry q text) (value_in modules places text ys)) h.lines_are)

  sources_value : (number : ℕ) (names : List (List ℕ)) (ms : List Contents) → AreModulesOf files names ms
      → value_in modules places text (by_modules module_definitions number ms) ≡ exported_from modules places number ms (map (lines_in files) names) text
  sources_value number [] [] h = refl
  sources_value number [] (m ∷ ms) h = absurd h
  sources_value number (name ∷ names) [] h = absurd h
  sources_value number (name ∷ names) (m ∷ ms) h =
      let a = h.0 in
      let from : ComesFrom files name m = subst (ComesFrom files name) a.2 (comes_from files name a.0 a.1) in
      source_value number name m (by_modules module_definitions (number + 1) ms) from
      ∙ ap (placed_or modules places number m (exported_entry (lines_in files name) text)) (sources_value (number + 1) names ms h.1)

module _ (files : Files) (names : List (List ℕ)) (modules : List Contents) (places : List Place) (of : AreModulesOf files names modules) where
  -- the value of a global name is that of the source that exports it
  value_exported : (text : List ℕ) → name_value modules places text ≡ exported_value files names modules places text
  value_exported text = sources_value modules places files text 0 names modules of

  pub name_comes : (number : ℕ) (m : Contents) (own : Definitions) (text : List ℕ) → name_under modules places number m own text ≡ name_from files names modules places number m own text
  name_comes number m own text = by (own_name own text)
    where
      by : (o : Option Value) → name_by modules places number m text o ≡ placed_or modules places number m o (exported_value files names modules places text)
      by (Some v) = refl
      by None = value_exported text

  pub number_comes : (number : ℕ) (m : Contents) (own : Definitions) (section offset : ℕ) (f : Field) (e : Tree)
      → operand_number modules places number m own section offset f e ≡ number_from files names modules places number m own section offset f e
  number_comes number m own section offset f e =
      λ j. field_value f (is_address (is_place own) e) (value_under (λ text. name_comes number m own text j) (pos (section_run modules places number m section + offset)) e)

-- ---- one definition of each name

abbrev pub called : Definition → List ℕ
called d = d.symbol.name

-- a definition that is there is found, where no name is defined again
record IsOnly (before : List (List ℕ)) (ds : List Definition) (d : Definition) : Type 0 where
  new : is_among (called d) before ≡ false
  found : definition_of (called d) ds ≡ Some d

not_again : (b : Bool) (name : List ℕ) (o : Option (List ℕ)) → cond b (Some name) o ≡ None → (b ≡ false) × (o ≡ None)
not_again true name o e = absurd (cc)
not_again false name o e = (refl, e)

is_only : (before : List (List ℕ)) (ds : List Definition) (d : Definition) → first_again before (map called ds) ≡ None → Contains ds d → IsOnly before ds d
is_only before [] d h c = absurd (nothing_in d c)
is_only before (x ∷ xs) d h c =
    let n = not_again (is_among (called x) before) (called x) (first_again (called x ∷ before) (map called xs)) h in
    elim (in_front x d xs c) [
      | inl same ↦ subst (IsOnly before (x ∷ xs)) same (record {
        new = n.0;
        found = ap (λ b. cond b (Some x) (definition_of (called x) xs)) ((bytes_eq-Decides (called x) (called x)).1 refl);
      })
      | inr later ↦ (
          let r = is_only (called x ∷ before) xs d n.1 later in
          let p = neither (bytes_eq (called d) (called x)) (is_among (called d) before) r.new in
          record { new = p.1; found = ap (λ b. cond b (Some x) (definition_of (called d) xs)) p.0 ∙ r.found }
          )
    ]

none_again : (modules : List Contents) (entry : Option (List ℕ)) → names_checked modules entry ≡ Ok tt → first_again [] (map called (definitions modules)) ≡ None
none_again modules entry e = by (first_again [] (defined_names modules)) (first_unresolved modules) (missing_entry (definitions modules) entry) e
  where
    by : (a b c : Option (List ℕ)) → (refused_with DefinedTwice a >>= λ _. refused_with Unresolved b >>= λ _. refused_with NoEntry c) ≡ Ok tt → a ≡ None
    by None b c g = refl
    by (Some n) b c g = absurd cc

pub in_modules : {A : Type 0} (gives : ℕ → Contents → List A) (number : ℕ) (all : List Contents) (k : ℕ) (m : Contents) (x : A) → slice_get all k ≡ Some m → Contains (gives (number + k) m) x → Contains (by_modules gives number all) x
in_modules gives number [] k m x e c = absurd (cc)
in_modules gives number (y ∷ ys) zero m x e c =
    let q : y ≡ m = cc in
    let z : number + 0 ≡ number = omega arith in
    Contains-append_left (gives number y) (by_modules gives (number + 1) ys) x (subst (λ (o : Contents). Contains (gives number o) x) (sym q) (subst (λ (n : ℕ). Contains (gives n m) x) z c))
in_modules gives number (y ∷ ys) (suc k) m x e c =
    let z : number + suc k ≡ (number + 1) + k = omega arith in
    Contains-append_right (gives number y) (by_modules gives (number + 1) ys) x (in_modules gives (number + 1) ys k m x e (subst (λ (n : ℕ). Contains (gives n m) x) z c))

pub comes_at : (files : Files) (names : List (List ℕ)) (all : List Contents) (number : ℕ) (name : List ℕ) (m : Contents) → AreModulesOf files names all → slice_get names number ≡ Some name → slice_get all number ≡ Some m → ComesFrom files name m
comes_at files [] [] number name m h e f = absurd (cc)
comes_at files [] (x ∷ all) number name m h e f = absurd h
comes_at files (n ∷ names) [] number name m h e f = absurd h
comes_at files (n ∷ names) (x ∷ all) zero name m h e f =
    let a = h.0 in
    let q : n ≡ name = cc in
    let r : x ≡ m = cc in
    subst (λ (k : List ℕ). ComesFrom files k m) q (subst (ComesFrom files n) (a.2 ∙ r) (comes_from files n a.0 a.1))
comes_at files (n ∷ names) (x ∷ all) (suc number) name m h e f = comes_at files names all number name m h.1 e f

-- the base that a kind comes from
base_of_kind : SymbolKind → Base
base_of_kind symbol.Absolute = Absolute
base_of_kind (symbol.InSection k) = Section k
base_of_kind (symbol.Loaded k) = Loaded k
base_of_kind symbol.External = Absolute

from_kind : (n : ℕ) (b : Base) → IsInside n b → base_of_kind (kind_of b) ≡ b
unfolding base_of_kind
from_kind n Absolute h = refl
from_kind n (Section k) h = refl
from_kind n (Loaded k) h = refl
from_kind n (External k) h = absurd h

module _ (files : Files) (names : List (List ℕ)) (modules : List Contents) (of : AreModulesOf files names modules) (entry : Option (List ℕ)) (checked : names_checked modules entry ≡ Ok tt) (text : List ℕ) where
  abbrev seen_by : IsExported files names modules text → List (List ℕ)
  seen_by e = (lines_in files e.name).exported

  -- the definition that an exporter gives
  abbrev given : IsExported files names modules text → Definition
  given e = definition e.number e.owner (symbol_of (seen_by e) (text, e.value))

  -- its value counts from no other module
  record IsOwn (e : IsExported files names modules text) : Type 0 where
    size : ℕ
    inside : IsInside size e.value.base
    there : Contains (module_definitions e.number e.owner) (given e)

  is_own : (e : IsExported files names modules text) → IsOwn e
  is_own e =
      let from = comes_at files names modules e.number e.name e.owner of e.name_is e.owner_is in
      let p = from.progress in
      let n = length p.sections in
      let pair : List ℕ × Value = (text, e.value) in
      let among : Contains p.names pair = subst (λ (q : Progress). Contains q.names pair) from.lines_are e.value_is in
      let good = each_in (λ (x : List ℕ × Value). IsSymbol x.0 × IsGoodValue (IsInside n) x.1) p.names pair ((from.kept).kept).names.symbols among in
      let seen : is_in p.exported text ≡ true = ap (λ (q : Progress). is_in q.exported text) (sym from.lines_are) ∙ e.seen in
      let symbols : e.owner.symbols ≡ map (symbol_of p.exported) (all_names p) = ap (λ (c : Contents). c.symbols) from.module_is in
      let y = symbol_of p.exported pair in
      let all : Contains (map (symbol_of p.exported) (all_names p)) y =
      in_map (symbol_of p.exported) (all_names p) pair (Contains-append_left p.names (numbered (length p.names) (imports p.names p.declared)) pair among) in
      let passes : is_definition y ≡ true = inside_defined n e.value.base good.1.0 (is_in p.exported text) ∙ seen in
      let own = in_filter is_definition (map (symbol_of p.exported) (all_names p)) y all passes in
      let there = in_map (definition e.number e.owner) (filter is_definition (map (symbol_of p.exported) (all_names p))) y own in
      record {
        size = n;
        inside = good.1.0;
        there = subst (λ (q : Progress). Contains (module_definitions e.number e.owner) (definition e.number e.owner (symbol_of q.exported pair))) (sym from.lines_are)
            (subst (λ (ys : List SymbolData). Contains (map (definition e.number e.owner) (filter is_definition ys)) (definition e.number e.owner y)) (sym symbols) there);
      }

  -- the definition is the one that is found
  found_one : (e : IsExported files names modules text) → definition_of text (definitions modules) ≡ Some (given e)
  found_one e =
      let o = is_own e in
      let z : 0 + e.number ≡ e.number = omega arith in
      let there = in_modules module_definitions 0 modules e.number e.owner (given e) e.owner_is (subst (λ (n : ℕ). Contains (module_definitions n e.owner) (given e)) (sym z) o.there) in
      (is_only [] (definitions modules) (given e) (none_again modules entry checked) there).found

  pub exported_is : (places : List Place) (e : IsExported files names modules text) → name_value modules places text ≡ placed modules places e.number e.owner e.value.base e.value.offset
  exported_is places e =
      let o = is_own e in
      ap (λ (x : Option Definition). option_map_or (definition_value modules places) x (pos 0)) (found_one e)
      ∙ placed_is modules places e.number e.owner o.size e.value.base e.value.offset (seen_by e) text o.inside

  pub exported_once : (d e : IsExported files names modules text) → (d.number ≡ e.number) × (d.value ≡ e.value)
  exported_once d e =
      let a = is_own d in
      let b = is_own e in
      let both : ◌≡◌ {A = Option Definition} (Some (given d)) (Some (given e)) = sym (found_one d) ∙ found_one e in
      let same : given d ≡ given e = cc in
      let base : d.value.base ≡ e.value.base =
      sym (from_kind a.size d.value.base a.inside) ∙ ap base_of_kind (ap (λ (x : Definition). x.symbol.kind) same) ∙ from_kind b.size e.value.base b.inside in
      let offset : d.value.offset ≡ e.value.offset = ap (λ (x : Definition). x.symbol.value) same in
      (ap (λ (x : Definition). x.number) same, λ j. record { base = base j; offset = offset j })
