-- the words of the sections so far are marked
use Rattle.std.proofs.Common.{take}
use Rattle.c25_place.specs.Room.{KnowsTaken}
use Rattle.c25_place.specs.View.{places_view}
use Rattle.c25_rooms.proofs.marks.take_places.Given as goal

abbrev pub invariant-loop-section : goal.invariant-loop-section
invariant-loop-section l = KnowsTaken l.taken l.page (places_view (take l.section-index l.places))
