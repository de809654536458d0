-- The names and the fields of the module of a layout have no fault in linking.
use Rattle.std.proofs.Common.{◌≡◌, ℕ, ◌+◌, ◌<◌, Bool, true, false, not, if◌then◌else◌, List, [], ◌∷◌, ◌++◌, filter, map, Option, Some, None, Ok, ℤ, pos, ◌+ℤ◌, int_lt, refl, sym, ap, ◌∙◌, arith}
use Rattle.std.specs.Prelude.{find}
use Rattle.std.specs.List.{AllByRecursion}
use Rattle.std.specs.Option.{option_map}
use Rattle.std.proofs.lemmas.Int.{ints}
use Rattle.c25_layout.specs.declared.layout.Part.{Part}
use Rattle.c25_meaning_assembly.specs.Emission.{symbol_of}
use Rattle.c25_meaning_assembly.specs.Sections.{Definitions}
use Rattle.c25_meaning_common.specs.Fields.{takes}
use Rattle.c25_meaning_common.specs.Results.{◌>>=◌}
use Rattle.c25_meaning_language.specs.declared.value.Base.{Base}
use Rattle.c25_meaning_language.specs.declared.value.Base.TheVariants.{Absolute, Section, Loaded, External}
use Rattle.c25_meaning_language.specs.declared.value.Value.{Value}
use Rattle.c25_meaning_linking.specs.Linking.{Use, base_name, first_again, first_spilled, is_unresolved, missing_base, missing_entry, names_checked, refused_with, spills, use_of, uses}
use Rattle.c25_meaning_linking.specs.Place.{Place}
use Rattle.c25_meaning_linking.specs.Words.{Definition, base_value, definition, definitions, is_definition, relocated_value, section_base, section_name, section_run}
use Rattle.c25_meaning_linking.specs.declared.link_fault.LinkFault.TheVariants.{DefinedTwice, NoEntry, Unresolved}
use Rattle.c25_meaning_objects.specs.Module.{Contents, SymbolData}
use Rattle.c25_meaning_objects.specs.declared.object.Relocation.{Relocation}
use Rattle.c25_laws.specs.SourceValues.{placed}
use Rattle.c25_layout_laws.proofs.ModuleOfParts.{IsModuleOf, IsOfName}
use Rattle.c25_layout_laws.proofs.PartsDone.{parts_names}
use Rattle.c25_layout_laws.proofs.PartsWords.{EachStands, found_same, parts_same}
use Rattle.c25_layout_laws.proofs.Taken.{IsBaseOf}
use Rattle.c25_layout.specs.Layouts.{names_of}

module _ (parts : List Part) (m : Contents) (h : IsModuleOf parts m) where
  abbrev alone : List Contents
  alone = m ∷ []

  -- ---- names

  none_defined : (ns : Definitions) → filter is_definition (map (symbol_of []) ns) ≡ []
  none_defined [] = refl
  none_defined (n ∷ ns) = none_defined ns

  no_definitions : definitions alone ≡ []
  no_definitions =
      ap (λ (ys : List SymbolData). map (definition 0 m) (filter is_definition ys) ++ []) h.symbols
      ∙ ap (λ (ys : List SymbolData). map (definition 0 m) ys ++ []) (none_defined (parts_names 1 parts))

  inner : (r : Relocation) → IsOfName parts r → missing_base [] m r.base ≡ false
  inner r n = go n.value.base n.base
    where
      go : (b : Base) → IsBaseOf b r.base → missing_base [] m r.base ≡ false
      go Absolute is = absurd is
      go (Section k) is = ap (missing_base [] m) is
      go (Loaded k) is = ap (missing_base [] m) is
      go (External k) is = absurd is

  none_unresolved : (rs : List Relocation) → AllByRecursion (IsOfName parts) rs → find (is_unresolved []) (map (use_of 0 m) rs ++ []) ≡ None
  none_unresolved [] n = refl
  none_unresolved (r ∷ rs) n =
      ap (λ (b : Bool). if b then Some (use_of 0 m r) else find (is_unresolved []) (map (use_of 0 m) rs ++ [])) (inner r n.0)
      ∙ none_unresolved rs n.1

  pub names_pass : names_checked alone None ≡ Ok tt
  names_pass =
      ap (λ (ds : List Definition). refused_with DefinedTwice (first_again [] (map (λ d. d.symbol.name) ds)) >>= λ _.
      refused_with Unresolved (option_map (λ u. base_name u.owner u.relocation.base) (find (is_unresolved ds) (uses alone))) >>= λ _.
      refused_with NoEntry (missing_entry ds None)) no_definitions
      ∙ ap (λ (o : Option Use). refused_with Unresolved (option_map (λ u. base_name u.owner u.relocation.base) o) >>= λ _. refused_with NoEntry None) (none_unresolved m.relocations h.relocations)

  -- ---- fields

  module _ (places : List Place) (stands : EachStands places m 1 parts) where
    value_is : (r : Relocation) (n : IsOfName parts r) → relocated_value alone places 0 m r ≡ pos (n.at + n.after)
    value_is r n =
        let v = found_same places m (parts_names 1 parts) (names_of parts) n.text n.at (parts_same places m parts 1 stands) n.stands in
        let same : v.0 ≡ n.value = let first = v.1 in let second = n.named in cc in
        let at : placed alone places 0 m n.value.base n.value.offset ≡ pos n.at = sym (ap (λ (x : Value). placed alone places 0 m x.base x.offset) same) ∙ v.2 in
        go n.value.base n.base (ap (λ (z : ℤ). placed alone places 0 m n.value.base z) (sym n.place.offset_is) ∙ at) ∙ refl
      where
        sum : (a b c d : ℕ) → pos a +ℤ pos b ≡ pos c → pos a +ℤ pos (b + d) ≡ pos (c + d)
        sum a b c d e = omega (arith, ints, e)

        go : (b : Base) → IsBaseOf b r.base → placed alone places 0 m b (pos n.place.offset) ≡ pos n.at → relocated_value alone places 0 m r ≡ pos (n.at + n.after)
        go Absolute is at = absurd is
        go (External k) is at = absurd is
        go (Section k) is at = (λ i. base_value alone places 0 m (is i) +ℤ n.addend i) ∙ sum (section_run alone places 0 m k) n.place.offset n.at n.after at
        go (Loaded k) is at = (λ i. base_value alone places 0 m (is i) +ℤ n.addend i) ∙ sum (section_base alone places 0 m k) n.place.offset n.at n.after at

    not_above : (n : ℕ) → n < 65536 → int_lt (pos 65535) (pos n) ≡ false
    not_above n small = on (int_lt (pos 65535) (pos n)) refl
      where
        on : (b : Bool) → int_lt (pos 65535) (pos n) ≡ b → int_lt (pos 65535) (pos n) ≡ false
        on true e = absurd (omega (arith, ints, e, small))
        on false e = e

    not_spilled : (r : Relocation) → IsOfName parts r → spills alone places (use_of 0 m r) ≡ false
    not_spilled r n =
        (λ i. not (takes (n.kind i) (value_is r n i)))
        ∙ ap (λ (b : Bool). not (not b)) (not_above (n.at + n.after) n.fits)

    none_spilled : (rs : List Relocation) → AllByRecursion (IsOfName parts) rs → find (spills alone places) (map (use_of 0 m) rs ++ []) ≡ None
    none_spilled [] n = refl
    none_spilled (r ∷ rs) n =
        ap (λ (b : Bool). if b then Some (use_of 0 m r) else find (spills alone places) (map (use_of 0 m) rs ++ [])) (not_spilled r n.0)
        ∙ none_spilled rs n.1

    pub fields_pass : first_spilled alone places ≡ None
    fields_pass = ap (λ (o : Option Use). option_map (λ u. section_name u.owner u.relocation.section) o) (none_spilled m.relocations h.relocations)
