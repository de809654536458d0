-- the words of the sections so far are marked
use Rattle.std.proofs.Common.{take}
use Rattle.c25_symbols.specs.View.{KnowsPage, places_view}
use Rattle.c25_symbols.proofs.used.page_words.Given as goal

abbrev pub invariant-loop-section : goal.invariant-loop-section
invariant-loop-section l = KnowsPage l.words.items l.page (places_view (take l.section-index l.sections))
