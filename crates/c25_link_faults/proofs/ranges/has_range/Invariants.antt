-- no range so far is one for the target
use Rattle.std.proofs.Common.{◌≡◌, false, take}
use Rattle.std.specs.List.{list_any}
use Rattle.c25_cmd.specs.View.{target_of}
use Rattle.c25_meaning_linking.specs.GoodMap.{is_usable}
use Rattle.c25_link_faults.specs.View.{ranges_view}
use Rattle.c25_link_faults.proofs.ranges.has_range.Given as goal

abbrev pub invariant-loop-range : goal.invariant-loop-range
invariant-loop-range l = list_any (is_usable (target_of l.target) l.page) (ranges_view (take l.range-index l.ranges)) ≡ false
