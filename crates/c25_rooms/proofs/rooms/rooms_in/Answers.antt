use Rattle.c25_place.specs.View.{places_view}
use Rattle.c25_rooms.proofs.Holed.{rooms_next}
use Rattle.c25_rooms.proofs.Opened.{knows_at}
use Rattle.c25_rooms.proofs.rooms.rooms_in.Goals as goal

pub loop-span-preserved : goal.loop-span-preserved
loop-span-preserved c =
    let places = places_view c.args.places.now in
    let marks = c.in_ok-marks-2.ensures.marks in
    record {
      marks = marks;
      rooms =
          rooms_next places c.args.spans.now c.loop-span.span-index _ c.loop-span.rooms.items c.push.new.self.items c.room_of.result c.loop-span-test.true c.in_ok-push.ensures.items c.loop-span.invariant.rooms c.room_of.ensures.span
          (c.room_of.ensures.room places (knows_at c.in_ok-marks-2.marks c.as_slice.result.now _ places marks c.in_ok-marks-2.ensures.page c.as_slice.ensures.value));
    }
