-- the next parts begin after the modules so far, and their direct operands are there
use Rattle.std.proofs.Common.{◌≡◌, take}
use Rattle.c25_map.specs.View.{map_data}
use Rattle.c25_meaning_linking.specs.Place.{all_sections, by_modules}
use Rattle.c25_symbols.specs.Parts.{KnowsNext}
use Rattle.c25_symbols.specs.View.{places_view}
use Rattle.c25_page_reports.specs.Operands.{HasSymbols, all_operands}
use Rattle.c25_page_reports.proofs.operands.page_operands.Given as goal

abbrev pub invariant-loop-number : goal.invariant-loop-number
invariant-loop-number l =
    KnowsNext l.next (places_view l.map.sections.items) (all_sections (take l.number l.modules))
    × (HasSymbols l.modules (map_data l.map) → l.operands.items ≡ by_modules (all_operands l.absolutes l.modules (places_view l.map.sections.items)) 0 (take l.number l.modules))
