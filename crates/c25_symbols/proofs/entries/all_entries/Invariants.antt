-- the next parts begin after the modules so far, and their symbols are there
use Rattle.std.proofs.Common.{◌≡◌, map, string_bytes, take}
use Rattle.c25_meaning_linking.specs.Place.{all_sections, by_modules}
use Rattle.c25_symbols.specs.Parts.{KnowsNext}
use Rattle.c25_symbols.specs.Symbols.{module_symbols}
use Rattle.c25_symbols.specs.View.{entries_view, places_view}
use Rattle.c25_symbols.proofs.entries.all_entries.Given as goal

abbrev pub invariant-loop-number : goal.invariant-loop-number
invariant-loop-number l =
    KnowsNext l.next (places_view l.sections) (all_sections (take l.number l.modules))
    × (entries_view l.entries.items ≡ by_modules (module_symbols l.modules (map string_bytes l.sources) (places_view l.sections)) 0 (take l.number l.modules))
