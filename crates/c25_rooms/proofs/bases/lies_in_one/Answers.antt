use Rattle.c25_link_faults.specs.Overlaps.{span_data}
use Rattle.c25_place.proofs.Listed.{any_at}
use Rattle.c25_rooms.specs.Crossings.{lies_in}
use Rattle.c25_rooms.proofs.bases.lies_in_one.Goals as goal

pub returns-then-lies_in : goal.returns-then-lies_in
returns-then-lies_in c = any_at (lies_in (span_data c.args.span.now)) span_data c.args.ranges.now c.loop-range.range-index _ c.loop-range-test.true c.if-lies_in.ensures
