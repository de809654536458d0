-- the section lies in none of the ranges so far
use Rattle.std.proofs.Common.{◌≡◌, false, map, take}
use Rattle.std.specs.List.{list_any}
use Rattle.c25_link_faults.specs.Overlaps.{span_data}
use Rattle.c25_rooms.specs.Crossings.{lies_in}
use Rattle.c25_rooms.proofs.bases.lies_in_one.Given as goal

abbrev pub invariant-loop-range : goal.invariant-loop-range
invariant-loop-range l = list_any (lies_in (span_data l.span)) (map span_data (take l.range-index l.ranges)) ≡ false
