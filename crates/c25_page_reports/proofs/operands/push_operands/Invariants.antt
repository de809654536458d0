-- the direct operands of the relocations so far are after those that were there
use Rattle.std.proofs.Common.{◌≡◌, ℕ, ◌++◌, List, filter, map, take}
use Rattle.c25_map.specs.View.{map_data}
use Rattle.c25_meaning_linking.specs.Place.{all_sections}
use Rattle.c25_meaning_objects.specs.Module.{Contents}
use Rattle.c25_module.specs.View.{contents}
use Rattle.c25_symbols.specs.Parts.{KnowsNext}
use Rattle.c25_symbols.specs.View.{places_view}
use Rattle.c25_page_reports.specs.Operands.{HasSymbols, is_page_operand, page_operand}
use Rattle.c25_page_reports.proofs.operands.push_operands.Given as goal

abbrev pub invariant-loop-relocation : goal.invariant-loop-relocation
invariant-loop-relocation l = (modules : List Contents) (number : ℕ) → HasSymbols modules (map_data l.map) → KnowsNext l.next (places_view l.map.sections.items) (all_sections (take number modules))
    → l.operands.items
    ≡ l.fn.operands.items
    ++ map (page_operand modules (places_view l.map.sections.items) number (contents l.owner)) (filter (is_page_operand (places_view l.map.sections.items) (contents l.owner)) (take l.relocation-index l.owner.relocations.items))
