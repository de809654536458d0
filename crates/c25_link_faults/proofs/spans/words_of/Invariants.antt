-- the words of the modules so far
use Rattle.std.proofs.Common.{◌≡◌, take}
use Rattle.c25_meaning_linking.specs.Place.{size_of_parts}
use Rattle.c25_link_faults.specs.Overlaps.{within_page}
use Rattle.c25_link_faults.proofs.spans.words_of.Given as goal

abbrev pub invariant-loop-module : goal.invariant-loop-module
invariant-loop-module l = l.words ≡ within_page (size_of_parts l.name (take l.module-index l.modules))
