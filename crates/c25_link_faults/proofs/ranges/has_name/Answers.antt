use Rattle.c25_meaning_linking.specs.GoodMap.{is_named_on}
use Rattle.c25_link_faults.specs.View.{range_view}
use Rattle.c25_place.proofs.Listed.{any_at}
use Rattle.c25_link_faults.proofs.ranges.has_name.Goals as goal

pub returns-then-is_named_on : goal.returns-then-is_named_on
returns-then-is_named_on c = any_at (is_named_on c.args.name.now 0) range_view c.args.ranges.now c.loop-range.range-index _ c.loop-range-test.true c.if-is_named_on.ensures
