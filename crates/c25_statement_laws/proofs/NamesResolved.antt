-- Each name that an operand needs and that its own source does not define is exported by a source of the program.
use Rattle.std.proofs.Common.{◌≡◌, ℕ, suc, zero, ◌+◌, Bool, true, false, List, [], ◌∷◌, length, map, filter, Option, Some, None, Ok, pos, is_none, refl, sym, ap, ◌∙◌, subst, arith, inl, inr}
use Rattle.std.specs.Prelude.{find}
use Rattle.std.specs.List.{Contains, slice_get}
use Rattle.std.specs.Option.{option_map}
use Rattle.std.specs.Str.{bytes_eq}
use Rattle.std.proofs.lemmas.Bool.{and_parts, false≢true}
use Rattle.std.proofs.lemmas.List.Elements.{Contains-append_cases}
use Rattle.std.proofs.lemmas.Slice.Eq.{bytes_eq-Decides}
use Rattle.c25_meaning_assembly.specs.Emission.{all_names, kind_of, numbered, scope_of, symbol_of}
use Rattle.c25_meaning_assembly.specs.Sections.{Progress, imports, is_in}
use Rattle.c25_meaning_common.specs.Results.{◌>>=◌}
use Rattle.c25_meaning_expansion.specs.Files.{Files}
use Rattle.c25_meaning_language.specs.declared.value.Base.TheVariants.{External}
use Rattle.c25_meaning_language.specs.declared.value.Value.{Value}
use Rattle.c25_meaning_linking.specs.Linking.{Use, defined_names, first_again, is_unresolved, missing_base, missing_entry, module_uses, names_checked, refused_with, use_of, uses, base_name}
use Rattle.c25_meaning_linking.specs.Place.{by_modules}
use Rattle.c25_meaning_linking.specs.Words.{Definition, definition, definition_of, definitions, is_defined, is_definition, module_definitions, symbol_name}
use Rattle.c25_meaning_linking.specs.declared.link_fault.LinkFault.TheVariants.{Unresolved, DefinedTwice, NoEntry}
use Rattle.c25_meaning_objects.specs.Module.{Contents, SymbolData, is_global}
use Rattle.c25_meaning_objects.specs.declared.object.Relocation.{Relocation}
use Rattle.c25_meaning_objects.specs.declared.object.RelocationBase.TheVariants as relocated
use Rattle.c25_linking_laws.proofs.Members.{found_in, from_filter, from_map, in_front, in_map, none_found, nothing_in}
use Rattle.c25_laws.specs.ProgramStatements.{AreModulesOf}
use Rattle.c25_statement_laws.specs.ExportedNames.{IsExported}
use Rattle.c25_statement_laws.proofs.NamesExported.{called, comes_at, in_modules}

-- ---- where a definition comes from

from_modules : {A : Type 0} (gives : ℕ → Contents → List A) (number : ℕ) (all : List Contents) (x : A) → Contains (by_modules gives number all) x → (k : ℕ) × (m : Contents) × (slice_get all k ≡ Some m) × Contains (gives (number + k) m) x
from_modules gives number [] x c = absurd (nothing_in x c)
from_modules gives number (y ∷ ys) x c =
    elim (Contains-append_cases (gives number y) (by_modules gives (number + 1) ys) x c) [
      | inl own ↦ (let z : number ≡ number + 0 = omega arith in (0, y, refl, subst (λ (n : ℕ). Contains (gives n y) x) z own))
      | inr later ↦ (
          let r = from_modules gives (number + 1) ys x later in
          let z : (number + 1) + r.0 ≡ number + suc r.0 = omega arith in
          (suc r.0, r.1, r.2, subst (λ (n : ℕ). Contains (gives n r.1) x) z r.3)
          )
    ]

named_at : (files : Files) (names : List (List ℕ)) (all : List Contents) (number : ℕ) (m : Contents) → AreModulesOf files names all → slice_get all number ≡ Some m → (name : List ℕ) × (slice_get names number ≡ Some name)
named_at files [] [] number m h f = absurd (cc)
named_at files [] (x ∷ all) number m h f = absurd h
named_at files (n ∷ names) [] number m h f = absurd h
named_at files (n ∷ names) (x ∷ all) zero m h f = (n, refl)
named_at files (n ∷ names) (x ∷ all) (suc number) m h f = named_at files names all number m h.1 f

imported_kind : (n : ℕ) (ds : List (List ℕ)) (pair : List ℕ × Value) → Contains (numbered n ds) pair → is_defined (kind_of pair.1.base) ≡ false
imported_kind n [] pair c = absurd (nothing_in pair c)
imported_kind n (d ∷ ds) pair c =
    elim (in_front (d, record { base = External n; offset = pos 0 }) pair (numbered (n + 1) ds) c) [
      | inl same ↦ sym (ap (λ (x : List ℕ × Value). is_defined (kind_of x.1.base)) same)
      | inr later ↦ imported_kind (n + 1) ds pair later
    ]

global_seen : (b : Bool) → is_global (scope_of b) ≡ true → b ≡ true
global_seen true h = refl
global_seen false h = absurd (cc)

module _ (files : Files) (names : List (List ℕ)) (modules : List Contents) (of : AreModulesOf files names modules) where
  -- a definition of the program is exported by a source
  exporter : (d : Definition) → Contains (definitions modules) d → IsExported files names modules (called d)
  exporter d c =
      let f = from_modules module_definitions 0 modules d c in
      let k = f.0 in
      let m = f.1 in
      let name = named_at files names modules k m of f.2 in
      let from = comes_at files names modules k name.0 m of name.1 f.2 in
      let p = from.progress in
      let symbols : m.symbols ≡ map (symbol_of p.exported) (all_names p) = ap (λ (x : Contents). x.symbols) from.module_is in
      let x = from_map (definition (0 + k) m) (filter is_definition m.symbols) d f.3 in
      let y = x.0 in
      let z = from_filter is_definition m.symbols y x.1 in
      let w = from_map (symbol_of p.exported) (all_names p) y (subst (λ (ys : List SymbolData). Contains ys y) symbols z.0) in
      let pair = w.0 in
      let same : symbol_of p.exported pair ≡ y = w.2 in
      let tests = and_parts (is_global (scope_of (is_in p.exported pair.0))) (is_defined (kind_of pair.1.base)) (ap is_definition same ∙ z.1) in
      let text : pair.0 ≡ called d = ap (λ (s : SymbolData). s.name) same ∙ ap called x.2 in
      subst (IsExported files names modules) text (record {
        number = k;
        name = name.0;
        owner = m;
        value = pair.1;
        name_is = name.1;
        owner_is = f.2;
        seen = ap (λ (q : Progress). is_in q.exported pair.0) from.lines_are ∙ global_seen (is_in p.exported pair.0) tests.0;
        value_is = subst (λ (q : Progress). Contains q.names (pair.0, pair.1)) (sym from.lines_are)
            (elim (Contains-append_cases p.names (numbered (length p.names) (imports p.names p.declared)) pair w.1) [
              | inl own ↦ own
              | inr other ↦ absurd {A = Contains p.names pair} (false≢true (sym (imported_kind (length p.names) (imports p.names p.declared) pair other) ∙ tests.1))
            ]);
      })

  none_unresolved : (entry : Option (List ℕ)) → names_checked modules entry ≡ Ok tt → find (is_unresolved (definitions modules)) (uses modules) ≡ None
  none_unresolved entry e = by (first_again [] (defined_names modules)) (find (is_unresolved (definitions modules)) (uses modules)) (missing_entry (definitions modules) entry) e
    where
      by : (a : Option (List ℕ)) (o : Option Use) (c : Option (List ℕ))
          → (refused_with DefinedTwice a >>= λ _. refused_with Unresolved (option_map (λ u. base_name u.owner u.relocation.base) o) >>= λ _. refused_with NoEntry c) ≡ Ok tt → o ≡ None
      by (Some n) o c g = absurd cc
      by None None c g = refl
      by None (Some u) c g = absurd cc

  -- the symbol that a field counts from is exported by a source
  pub resolved : (entry : Option (List ℕ)) → names_checked modules entry ≡ Ok tt → (number : ℕ) (m : Contents) → slice_get modules number ≡ Some m
      → (r : Relocation) → Contains m.relocations r → (index : ℕ) → r.base ≡ relocated.External index → IsExported files names modules (symbol_name m index)
  resolved entry checked number m at r c index base = by (definition_of (symbol_name m index) (definitions modules)) refl
    where
      there : Contains (uses modules) (use_of number m r)
      there =
          let z : 0 + number ≡ number = omega arith in
          in_modules module_uses 0 modules number m (use_of number m r) at (subst (λ (n : ℕ). Contains (module_uses n m) (use_of number m r)) (sym z) (in_map (use_of number m) m.relocations r c))

      by : (o : Option Definition) → definition_of (symbol_name m index) (definitions modules) ≡ o → IsExported files names modules (symbol_name m index)
      by None e =
          let open_base : is_unresolved (definitions modules) (use_of number m r) ≡ true = ap (missing_base (definitions modules) m) base ∙ ap (λ (o : Option Definition). is_none o) e in
          absurd {A = IsExported files names modules (symbol_name m index)} (none_found (is_unresolved (definitions modules)) (uses modules) (use_of number m r) (none_unresolved entry checked) there open_base)
      by (Some d) e =
          let f = found_in (λ (x : Definition). bytes_eq (symbol_name m index) (called x)) (definitions modules) d e in
          subst (IsExported files names modules) (sym ((bytes_eq-Decides (symbol_name m index) (called d)).0 f.1)) (exporter d f.0)
