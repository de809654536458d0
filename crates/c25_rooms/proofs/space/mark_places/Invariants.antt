-- the words so far are measured, and the places of the sections that they have room for are marked
use Rattle.std.proofs.Common.{◌≡◌, ℕ, List, ◌≤◌, ◌+◌, length}
use Rattle.c25_meaning_linking.specs.Place.{Place}
use Rattle.c25_place.specs.Room.{KnowsTaken}
use Rattle.c25_rooms.specs.Bases.{AreOpened}
use Rattle.c25_rooms.specs.Measured.{IsMeasured}
use Rattle.c25_rooms.proofs.space.mark_places.Given as goal

abbrev pub invariant-loop-word : goal.invariant-loop-word
invariant-loop-word l = record {
  sized : length l.marks ≡ 128;
  free : l.start + l.measure.free ≤ l.word;
  run : l.start + l.measure.run ≤ l.word;
  so_far : (page : ℕ) (places : List Place) → KnowsTaken l.taken page places → IsMeasured page places l.start l.word l.measure;
  opened : (page : ℕ) (places : List Place) → KnowsTaken l.taken page places → AreOpened page places l.start l.word l.size l.fn.marks l.marks;
}
