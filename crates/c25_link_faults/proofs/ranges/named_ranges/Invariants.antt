-- the ranges so far stand there
use Rattle.std.proofs.Common.{◌≡◌, take}
use Rattle.c25_cmd.specs.View.{ranges_of}
use Rattle.c25_link_faults.specs.View.{ranges_view}
use Rattle.c25_link_faults.proofs.ranges.named_ranges.Given as goal

abbrev pub invariant-loop-range : goal.invariant-loop-range
invariant-loop-range l = ranges_view l.list.items ≡ ranges_of (take l.range-index l.memory)
