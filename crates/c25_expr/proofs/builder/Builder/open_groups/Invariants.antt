-- the open parentheses of the frames so far are counted
use Rattle.std.proofs.Common.{◌≡◌, ◌≤◌, reverse, take}
use Rattle.c25_expr.proofs.Frames.{grouped}
use Rattle.c25_expr.proofs.builder.Builder.open_groups.Given as goal

abbrev pub invariant-loop-frame : goal.invariant-loop-frame
invariant-loop-frame l = (l.count ≡ grouped (reverse (take l.frame-index l.frame-items))) × (l.count ≤ l.frame-index)
