-- What the code's maps stand for among the definitions' data.
use Rattle.std.specs.Prelude.{map, option_map, string_bytes}
use Rattle.c25_meaning_linking.specs.MapText as meant
use Rattle.c25_map.specs.declared.map.Part.{Part}
use Rattle.c25_map.specs.declared.map.OutputSection.{OutputSection}
use Rattle.c25_map.specs.declared.map.GlobalSymbol.{GlobalSymbol}
use Rattle.c25_map.specs.declared.map.Map.{Map}

-- a part, as the definitions have it
abbrev pub part_data : Part → meant.PartData
part_data p = record { number = string_bytes p.number; base = p.base; size = p.size }

-- a section with its parts, as the definitions have it
abbrev pub section_data : OutputSection → meant.SectionPlace
section_data s = record {
  place = record { name = string_bytes s.name; page = s.page; base = s.base; size = s.size; run = s.run };
  parts = map part_data s.parts.items;
}

-- a global symbol, as the definitions have it
abbrev pub symbol_data : GlobalSymbol → meant.NamedValue
symbol_data y = record { name = string_bytes y.name; value = y.value }

-- a map, as the definitions have it
abbrev pub map_data : Map → meant.MapData
map_data m = record {
  sections = map section_data m.sections.items;
  symbols = map symbol_data m.symbols.items;
  entry = option_map symbol_data m.entry;
}
