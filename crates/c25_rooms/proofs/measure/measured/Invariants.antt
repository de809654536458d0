-- the words so far are measured
use Rattle.std.proofs.Common.{ℕ, List, ◌≤◌, ◌+◌}
use Rattle.c25_meaning_linking.specs.Place.{Place}
use Rattle.c25_place.specs.Room.{KnowsTaken}
use Rattle.c25_rooms.specs.Measured.{IsMeasured}
use Rattle.c25_rooms.proofs.measure.measured.Given as goal

abbrev pub invariant-loop-word : goal.invariant-loop-word
invariant-loop-word l = record {
  free : l.start + l.measure.free ≤ l.word;
  run : l.start + l.measure.run ≤ l.word;
  so_far : (page : ℕ) (places : List Place) → KnowsTaken l.taken page places → IsMeasured page places l.start l.word l.measure;
}
