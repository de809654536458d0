-- the section lies in no range so far
use Rattle.std.proofs.Common.{◌≡◌, false, take}
use Rattle.std.specs.List.{list_any}
use Rattle.c25_meaning_linking.specs.GoodMap.{is_inside}
use Rattle.c25_place.specs.View.{ranges_view}
use Rattle.c25_place.proofs.placement.any_inside.Given as goal

abbrev pub invariant-loop-range : goal.invariant-loop-range
invariant-loop-range l = list_any (is_inside l.address l.size) (ranges_view (take l.range-index l.ranges)) ≡ false
