use Rattle.c25_meaning_linking.specs.GoodMap.{is_inside}
use Rattle.c25_place.specs.View.{range_view}
use Rattle.c25_place.proofs.Listed.{any_at}
use Rattle.c25_place.proofs.placement.any_inside.Goals as goal

pub returns-then-is_inside : goal.returns-then-is_inside
returns-then-is_inside c = any_at (is_inside c.args.address c.args.size) range_view c.args.ranges.now c.loop-range.range-index _ c.loop-range-test.true c.if-is_inside.ensures
