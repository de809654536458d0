-- what is found in the sections from here on is what is found in all
use Rattle.std.proofs.Common.{◌≡◌, drop}
use Rattle.c25_meaning_linking.specs.Place.{page_of}
use Rattle.c25_symbols.specs.View.{places_view}
use Rattle.c25_page_reports.proofs.operands.page_of.Given as goal

abbrev pub invariant-loop-section : goal.invariant-loop-section
invariant-loop-section l = page_of l.name (places_view (drop l.section-index l.sections)) ≡ page_of l.name (places_view l.sections)
