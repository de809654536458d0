-- the absolute operands so far that are of the module are after those that were there
use Rattle.std.proofs.Common.{◌≡◌, ◌++◌, List, filter, map, take}
use Rattle.c25_meaning_linking.specs.Place.{all_sections}
use Rattle.c25_meaning_objects.specs.Module.{Contents}
use Rattle.c25_module.specs.View.{contents}
use Rattle.c25_symbols.specs.Parts.{KnowsNext}
use Rattle.c25_symbols.specs.View.{places_view}
use Rattle.c25_page_reports.specs.Operands.{absolute_operand, is_absolute_of}
use Rattle.c25_page_reports.proofs.operands.push_absolutes.Given as goal

abbrev pub invariant-loop-absolute : goal.invariant-loop-absolute
invariant-loop-absolute l = (modules : List Contents) → KnowsNext l.next (places_view l.map.sections.items) (all_sections (take l.owner.number modules))
    → l.operands.items
    ≡ l.fn.operands.items
    ++ map (absolute_operand modules (places_view l.map.sections.items) l.owner.number (contents l.owner.parts.now)) (filter (is_absolute_of (places_view l.map.sections.items) l.owner.number (contents l.owner.parts.now)) (take l.absolute-index l.absolutes))
