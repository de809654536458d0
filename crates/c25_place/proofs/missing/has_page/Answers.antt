use Rattle.std.specs.Prelude.{◌==◌}
use Rattle.c25_meaning_linking.specs.Command.{RangeData}
use Rattle.c25_place.specs.View.{range_view}
use Rattle.c25_place.proofs.Listed.{any_at}
use Rattle.c25_place.proofs.missing.has_page.Goals as goal

pub returns-then-is_of_page : goal.returns-then-is_of_page
returns-then-is_of_page c = any_at (λ (r : RangeData). r.page == c.args.page) range_view c.args.ranges.now c.loop-range.range-index _ c.loop-range-test.true c.if-is_of_page.ensures
