-- the ranges so far are measured, and the marks are those of a page
use Rattle.std.proofs.Common.{map, take}
use Rattle.c25_link_faults.specs.Overlaps.{span_data}
use Rattle.c25_place.specs.View.{places_view}
use Rattle.c25_rooms.specs.Holes.{AreRooms, room_data}
use Rattle.c25_rooms.specs.Marks.{KnowsMarks}
use Rattle.c25_rooms.proofs.rooms.rooms_in.Given as goal

abbrev pub invariant-loop-span : goal.invariant-loop-span
invariant-loop-span l = record {
  marks : KnowsMarks l.marks (places_view l.places);
  rooms : AreRooms (places_view l.places) (map span_data (take l.span-index l.spans)) (map room_data l.rooms.items);
}
