-- What this crate's types stand for among the definitions' data.
use Rattle.std.specs.Prelude.{◌≡◌, ◌<◌, ℕ, Bool, false, List, length, map, slice_index_or, Option}
use Rattle.std.specs.Borrow.{Bor}
use Rattle.std.specs.HashMap.{HashMap, get_by}
use Rattle.std.specs.Str.{bytes_eq}
use Rattle.c25_map.specs.View.{section_data}
use Rattle.c25_map.specs.declared.map.OutputSection.{OutputSection}
use Rattle.c25_meaning_linking.specs.Command.{RangeData}
use Rattle.c25_meaning_linking.specs.MapText.{MapData}
use Rattle.c25_meaning_linking.specs.Place.{Place}
use Rattle.c25_symbols.specs.Symbols.{Listed}
use Rattle.c25_symbols.specs.Used.{is_used}
use Rattle.c25_symbols.specs.declared.entries.SymbolEntry.{SymbolEntry}
use Rattle.c25_symbols.specs.declared.ranges.RangeUse.{RangeUse}
use Rattle.c25_symbols.specs.declared.used.UsedWords.{UsedWords}

-- what a map from names has for a name
abbrev pub named : {V S : Type 0} → HashMap (Bor (List ℕ)) V S → List ℕ → Option V
named m name = get_by (λ k. bytes_eq name k.now) m

-- the places of the sections of a map
abbrev pub places_of : MapData → List Place
places_of m = map (λ s. s.place) m.sections

-- the place of a section
abbrev pub place_of : OutputSection → Place
place_of s = (section_data s).place

-- the places of sections
abbrev pub places_view : List OutputSection → List Place
places_view sections = map place_of sections

-- a symbol, as the definitions have it
abbrev pub entry_view : SymbolEntry → Listed
entry_view e = record { value = e.value; kind = e.kind; section = e.section.now; source = e.source.now; name = e.name.now }

-- symbols, as the definitions have them
abbrev pub entries_view : List SymbolEntry → List Listed
entries_view entries = map entry_view entries

-- a range, as the definitions have it
abbrev pub range_view : RangeUse → RangeData
range_view r = record { page = r.page; name = r.name.now; origin = r.origin; size = r.size }

-- the list has a mark for each word of a page, and those are set that sections use
pub record KnowsPage (words : List Bool) (page : ℕ) (places : List Place) : Type 0 where
  pub sized : length words ≡ 65536
  pub used : (word : ℕ) → word < 65536 → slice_index_or words word false ≡ is_used page places word

-- the lists of both pages have the marks of the words that sections use
pub record KnowsUsed (u : UsedWords) (places : List Place) : Type 0 where
  pub program : KnowsPage u.program.items 0 places
  pub store : KnowsPage u.store.items 1 places

-- the lists have a mark for each word of both pages
abbrev pub AreSized : UsedWords → Type 0
AreSized u = (length u.program.items ≡ 65536) × (length u.store.items ≡ 65536)
