-- no range so far has the name on the page
use Rattle.std.proofs.Common.{◌≡◌, false, take}
use Rattle.std.specs.List.{list_any}
use Rattle.c25_meaning_linking.specs.GoodMap.{is_named_on}
use Rattle.c25_place.specs.View.{ranges_view}
use Rattle.c25_place.proofs.missing.is_named.Given as goal

abbrev pub invariant-loop-range : goal.invariant-loop-range
invariant-loop-range l = list_any (is_named_on l.name l.page) (ranges_view (take l.range-index l.ranges)) ≡ false
