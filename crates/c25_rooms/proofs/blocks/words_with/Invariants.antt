-- the words of the sections so far were added
use Rattle.std.proofs.Common.{◌≡◌, ◌+◌, take}
use Rattle.std.specs.List.{sum_by}
use Rattle.c25_meaning_linking.specs.Place.{size_for}
use Rattle.c25_module.specs.View.{sections_data}
use Rattle.c25_rooms.proofs.blocks.words_with.Given as goal

abbrev pub invariant-loop-section : goal.invariant-loop-section
invariant-loop-section l = l.words ≡ l.fn.words + sum_by (size_for l.name) (sections_data (take l.section-index l.sections))
