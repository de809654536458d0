-- The lines of a program's map all have their form.
use Rattle.std.proofs.Common.{◌≡◌, ◌∙◌, ℕ, ◌+◌, ◌<◌, ◌^◌, List, [], ◌∷◌, length, get_or, map, filter, Option, Some, None, Ok, All, ℤ, pos, negsuc, refl, ap, subst, arith}
use Rattle.std.specs.Prelude.{IfSome, true}
use Rattle.std.specs.List.{slice_get}
use Rattle.std.specs.Option.{option_map}
use Rattle.std.specs.Str.{bytes_eq}
use Rattle.std.proofs.lemmas.List.Elements.{All-map, All-filter, All-weaker}
use Rattle.std.proofs.lemmas.Option.{slice_get-get_or, slice_get_within}
use Rattle.c25_meaning_linking.proofs.Parts.{part_in_place}
use Rattle.c25_meaning_linking.specs.Command.{CommandData, IsCommand}
use Rattle.c25_meaning_linking.specs.GoodMap.{IsGoodMap, ranges_for, placings_for}
use Rattle.c25_meaning_linking.specs.Linking.{ImageData, IsProgram, map_of, named_value, names_checked, section_part, section_parts, section_place, symbol_value, entry_value}
use Rattle.c25_meaning_linking.specs.MapText.{MapData, IsPrinted, IsPrintedPart, IsPrintedSection, IsPrintedValue}
use Rattle.c25_meaning_objects.specs.Module.{SectionData, Contents, IsModule, is_symbol_name}
use Rattle.c25_meaning_linking.specs.Place.{Place, is_section_named}
use Rattle.c25_meaning_linking.specs.Words.{Definition, definitions, definition_value, name_value}
use Rattle.c25_linking_laws.proofs.Named.{IsNamedDefinition, all_by_modules, fine_sections, found_holds, module_at, named_definitions, named_entry}
use Rattle.c25_linking_laws.proofs.Numerals.{is_decimal}
use Rattle.c25_linking_laws.proofs.Placed.{IsGoodPlace, IsInB0, good_places}

-- ---- sections and parts

module _ (modules : List Contents) (command : CommandData) (places : List Place) (are : All IsModule modules) (few : length modules < 2 ^ 64) (is : IsCommand command) (good : IsGoodMap modules command places) where
  printed_parts : (name : List ℕ) (number : ℕ) (m : Contents) → slice_get modules number ≡ Some m → All IsPrintedPart (section_parts modules places name number m)
  printed_parts name number m e =
      let below = slice_get_within modules number m e in
      let fine = fine_sections m (module_at modules number m are e) in
      let each : All (λ (s : SectionData). IsPrintedPart (section_part modules places number s)) m.sections = λ i d lt.
      let s = get_or m.sections i d in
      let in_place = part_in_place (ranges_for command) modules (placings_for command) places number i m s good (record { owner_is = e; section_is = slice_get-get_or m.sections i d lt }) in
      let last = (found_holds IsGoodPlace (λ (p : Place). bytes_eq s.name p.name) places in_place.place (good_places modules command places are is good) in_place.found).last in
      let within = in_place.within in
      let small = (fine i d lt).size in
      record { number = is_decimal number (omega (arith, below, few)); base = omega (arith, within, last); size = omega (arith, small) } in
      All-map IsPrintedPart (section_part modules places number) (filter (is_section_named name) m.sections)
      (All-filter (is_section_named name) (λ (s : SectionData). IsPrintedPart (section_part modules places number s)) m.sections each)

  printed_run : (size : ℕ) (run : Option ℕ) → IfSome run (IsInB0 size) → IfSome run (λ run. run < 65536)
  printed_run size None h = tt
  printed_run size (Some run) h = h.below

  printed_section : (p : Place) → IsGoodPlace p → IsPrintedSection (section_place modules places p)
  printed_section p h =
      let last = h.last in
      record {
        name = h.name;
        page = h.page;
        base = h.first;
        size = omega (arith, last);
        run = printed_run p.size p.run h.run;
        parts = all_by_modules IsPrintedPart (section_parts modules places p.name) 0 modules
            (λ k m e. let z : k ≡ 0 + k = omega arith in subst (λ n. All IsPrintedPart (section_parts modules places p.name n m)) z (printed_parts p.name k m e));
      }

  pub printed_sections : All IsPrintedSection (map (section_place modules places) places)
  printed_sections =
      All-map IsPrintedSection (section_place modules places) places (All-weaker IsGoodPlace (λ (p : Place). IsPrintedSection (section_place modules places p)) printed_section places (good_places modules command places are is good))

-- ---- symbols and the entry

small_value : (name : List ℕ) (z : ℤ) → (named_value name z).value < 2 ^ 32
small_value name (pos n) = omega arith
small_value name (negsuc n) = omega arith

printed_symbols : (modules : List Contents) (places : List Place) → All IsModule modules → All IsPrintedValue (map (symbol_value modules places) (definitions modules))
printed_symbols modules places are =
    All-map IsPrintedValue (symbol_value modules places) (definitions modules)
    (All-weaker IsNamedDefinition (λ (d : Definition). IsPrintedValue (symbol_value modules places d)) (λ d named. record { name = named; value = small_value d.symbol.name (definition_value modules places d) }) (definitions modules) (named_definitions modules are))

printed_entry : (modules : List Contents) (places : List Place) (entry : Option (List ℕ)) → IfSome entry (λ name. is_symbol_name name ≡ true) → IfSome (option_map (entry_value modules places) entry) IsPrintedValue
printed_entry modules places None h = tt
printed_entry modules places (Some name) h = record { name = h; value = small_value name (name_value modules places name) }

-- ---- the map

pub is_printed : (modules : List Contents) (command : CommandData) (places : List Place) → All IsModule modules → length modules < 2 ^ 64 → IsCommand command → names_checked modules command.entry ≡ Ok tt → IsGoodMap modules command places
    → IsPrinted (map_of modules command.entry places)
is_printed modules command places are few is names good = record {
  sections = printed_sections modules command places are few is good;
  symbols = printed_symbols modules places are;
  entry = printed_entry modules places command.entry (named_entry modules command.entry are names);
}

-- the places of sections with their parts are those of the sections
places_back : (modules : List Contents) (all places : List Place) → map (λ s. s.place) (map (section_place modules all) places) ≡ places
places_back modules all [] = refl
places_back modules all (p ∷ places) = ap (λ (ps : List Place). p ∷ ps) (places_back modules all places)

pub program_places : (modules : List Contents) (command : CommandData) (image : ImageData) (p : IsProgram modules command image) → map (λ s. s.place) image.described.sections ≡ p.places
program_places modules command image p =
    ap (λ (m : MapData). map (λ s. s.place) m.sections) p.described ∙ places_back modules p.places p.places
