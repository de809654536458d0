-- the ranges of the page so far stand there, and each name has its place
use Rattle.std.proofs.Common.{◌≡◌, ℕ, List, take, length, vec_len}
use Rattle.c25_place.specs.Ranges.{on_page, place_in}
use Rattle.c25_place.specs.View.{named, ranges_view}
use Rattle.c25_place.proofs.ranges.page_ranges.Given as goal

abbrev pub invariant-loop-range : goal.invariant-loop-range
invariant-loop-range l = (ranges_view l.list.items ≡ on_page l.page (ranges_view (take l.range-index l.all)))
    × ((name : List ℕ) → named l.found name ≡ place_in name (on_page l.page (ranges_view (take l.range-index l.all)))) × (vec_len l.list ≡ length l.list.items)
