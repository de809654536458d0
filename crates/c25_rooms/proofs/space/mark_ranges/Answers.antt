use Rattle.std.proofs.Common.{List, map, subst, sym, take}
use Rattle.c25_link_faults.specs.Overlaps.{SpanData, span_data}
use Rattle.c25_place.proofs.Listed.{mapped_more}
use Rattle.c25_place.specs.View.{places_view}
use Rattle.c25_rooms.specs.Bases.{AreRoomy}
use Rattle.c25_rooms.proofs.Opened.{knows_at, roomy_more}
use Rattle.c25_rooms.proofs.space.mark_ranges.Goals as goal

pub loop-range-preserved : goal.loop-range-preserved
loop-range-preserved c =
    let places = places_view c.args.places.now in
    let i = c.loop-range.range-index in
    let marks = c.in_ok-marks-2.ensures.marks in
    record {
      marks = marks;
      sized = c.mark_range.ensures.sized;
      roomy =
          subst (λ (ss : List SpanData). AreRoomy places ss c.args.size c.mark_range.new.marks) (sym (mapped_more span_data c.args.ranges.now i _ c.loop-range-test.true))
          (roomy_more places (map span_data (take i c.args.ranges.now)) _ c.args.size c.loop-range.roomy c.mark_range.new.marks
          (c.mark_range.ensures.opened places (knows_at c.in_ok-marks-2.marks c.as_slice.result.now _ places marks c.in_ok-marks-2.ensures.page c.as_slice.ensures.value)) c.loop-range.invariant.roomy);
    }
