-- no range so far is one of the page
use Rattle.std.proofs.Common.{◌≡◌, ◌==◌, false, take}
use Rattle.std.specs.List.{list_any}
use Rattle.c25_place.specs.View.{ranges_view}
use Rattle.c25_place.proofs.missing.has_page.Given as goal

abbrev pub invariant-loop-range : goal.invariant-loop-range
invariant-loop-range l = list_any (λ r. r.page == l.page) (ranges_view (take l.range-index l.ranges)) ≡ false
