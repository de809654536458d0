-- the ranges so far that the target allows
use Rattle.std.proofs.Common.{◌≡◌, map, take}
use Rattle.std.specs.List.{flat_map}
use Rattle.c25_cmd.specs.View.{target_of}
use Rattle.c25_link_faults.specs.Overlaps.{span_data}
use Rattle.c25_link_faults.specs.Unfits.{usable_span}
use Rattle.c25_link_faults.specs.View.{ranges_view}
use Rattle.c25_link_faults.proofs.unfits.usable.Given as goal

abbrev pub invariant-loop-range : goal.invariant-loop-range
invariant-loop-range l = map span_data l.list.items ≡ flat_map (usable_span (target_of l.target) l.page) (ranges_view (take l.range-index l.ranges))
