-- no range so far has the name
use Rattle.std.proofs.Common.{◌≡◌, false, take}
use Rattle.std.specs.List.{list_any}
use Rattle.c25_meaning_linking.specs.GoodMap.{is_named_on}
use Rattle.c25_link_faults.specs.View.{ranges_view}
use Rattle.c25_link_faults.proofs.ranges.has_name.Given as goal

abbrev pub invariant-loop-range : goal.invariant-loop-range
invariant-loop-range l = list_any (is_named_on l.name 0) (ranges_view (take l.range-index l.ranges)) ≡ false
