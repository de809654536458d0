-- the open parentheses and unary operators of the frames so far are counted
use Rattle.std.proofs.Common.{◌≡◌, ◌≤◌, reverse, take}
use Rattle.c25_expr.proofs.Frames.{nested}
use Rattle.c25_expr.proofs.builder.Builder.nesting.Given as goal

abbrev pub invariant-loop-frame : goal.invariant-loop-frame
invariant-loop-frame l = (l.count ≡ nested (reverse (take l.frame-index l.frame-items))) × (l.count ≤ l.frame-index)
