-- The values of names, by the symbols of a map.
use Rattle.std.proofs.Common.{◌≡◌, ℕ, Bool, true, false, cond, pos, List, [], ◌∷◌, map, Option, Some, find, refl, sym, ap, ◌∙◌}
use Rattle.std.specs.Option.{option_map_or}
use Rattle.std.specs.Str.{bytes_eq}
use Rattle.c25_bits.specs.Cut.{cut}
use Rattle.c25_map.specs.View.{map_data, symbol_data}
use Rattle.c25_map.specs.declared.map.Map.{Map}
use Rattle.c25_meaning_linking.specs.Command.{CommandData}
use Rattle.c25_meaning_linking.specs.Linking.{ImageData, IsProgram, section_place, symbol_value}
use Rattle.c25_meaning_linking.specs.MapText.{MapData, NamedValue, SectionPlace}
use Rattle.c25_meaning_linking.specs.Place.{Place}
use Rattle.c25_meaning_linking.specs.Words.{Definition, definition_of, definition_value, definitions, name_value}
use Rattle.c25_meaning_objects.specs.Module.{Contents}
use Rattle.c25_symbols.specs.View.{places_view}
use Rattle.c25_symbols.proofs.Next.{places_seen}
use Rattle.c25_page_reports.specs.Operands.{HasSymbols, value_among}

-- ---- the symbols of a program

placed_back : (modules : List Contents) (all ps : List Place) → map (λ (s : SectionPlace). s.place) (map (section_place modules all) ps) ≡ ps
placed_back modules all [] = refl
placed_back modules all (p ∷ ps) = ap (λ (qs : List Place). p ∷ qs) (placed_back modules all ps)

-- the map of a program has the symbols that its modules define
pub has_symbols : (modules : List Contents) (command : CommandData) (image : ImageData) → IsProgram modules command image → HasSymbols modules image.described
has_symbols modules command image p =
    let back : map (λ (s : SectionPlace). s.place) image.described.sections ≡ p.places =
    ap (λ (d : MapData). map (λ (s : SectionPlace). s.place) d.sections) p.described ∙ placed_back modules p.places p.places in
    ap (λ (d : MapData). d.symbols) p.described ∙ ap (λ (ps : List Place). map (symbol_value modules ps) (definitions modules)) (sym back)

-- the same by the places of the map
pub symbols_valued : (modules : List Contents) (m : Map) → HasSymbols modules (map_data m) → map symbol_data m.symbols.items ≡ map (symbol_value modules (places_view m.sections.items)) (definitions modules)
symbols_valued modules m has = has ∙ ap (λ (ps : List Place). map (symbol_value modules ps) (definitions modules)) (sym (places_seen m))

-- ---- names

defined_one : (modules : List Contents) (places : List Place) (b : Bool) (d : Definition) (rest : Option NamedValue) (o : Option Definition) → option_map_or (λ (v : NamedValue). v.value) rest 0 ≡ cut (option_map_or (definition_value modules places) o (pos 0)) 32
    → option_map_or (λ (v : NamedValue). v.value) (cond b (Some (symbol_value modules places d)) rest) 0 ≡ cut (option_map_or (definition_value modules places) (cond b (Some d) o) (pos 0)) 32
defined_one modules places true d rest o e = refl
defined_one modules places false d rest o e = e

defined_found : (modules : List Contents) (places : List Place) (name : List ℕ) (ds : List Definition) → value_among (map (symbol_value modules places) ds) name ≡ cut (option_map_or (definition_value modules places) (definition_of name ds) (pos 0)) 32
defined_found modules places name [] = refl
defined_found modules places name (d ∷ ds) =
    defined_one modules places (bytes_eq name d.symbol.name) d (find (λ (v : NamedValue). bytes_eq name v.name) (map (symbol_value modules places) ds)) (definition_of name ds) (defined_found modules places name ds)

-- the value of a name, by the symbols of a map
pub value_found : (modules : List Contents) (places : List Place) (name : List ℕ) (values : List NamedValue) → values ≡ map (symbol_value modules places) (definitions modules) → value_among values name ≡ cut (name_value modules places name) 32
value_found modules places name values e = ap (λ (vs : List NamedValue). value_among vs name) e ∙ defined_found modules places name (definitions modules)
