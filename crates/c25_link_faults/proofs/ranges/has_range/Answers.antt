use Rattle.c25_cmd.specs.View.{target_of}
use Rattle.c25_meaning_linking.specs.GoodMap.{is_usable}
use Rattle.c25_link_faults.specs.View.{range_view}
use Rattle.c25_place.proofs.Listed.{any_at}
use Rattle.c25_link_faults.proofs.ranges.has_range.Goals as goal

pub returns-then-is_usable : goal.returns-then-is_usable
returns-then-is_usable c = any_at (is_usable (target_of c.args.target.now) c.args.page) range_view c.args.ranges.now c.loop-range.range-index _ c.loop-range-test.true c.if-is_usable.ensures
