-- the places where there is room in the ranges so far are marked
use Rattle.std.proofs.Common.{◌≡◌, length, map, take}
use Rattle.c25_link_faults.specs.Overlaps.{span_data}
use Rattle.c25_place.specs.View.{places_view}
use Rattle.c25_rooms.specs.Bases.{AreRoomy}
use Rattle.c25_rooms.specs.Marks.{KnowsMarks}
use Rattle.c25_rooms.proofs.space.mark_ranges.Given as goal

abbrev pub invariant-loop-range : goal.invariant-loop-range
invariant-loop-range l = record {
  marks : KnowsMarks l.marks (places_view l.places);
  sized : length l.roomy ≡ 128;
  roomy : AreRoomy (places_view l.places) (map span_data (take l.range-index l.ranges)) l.size l.roomy;
}
