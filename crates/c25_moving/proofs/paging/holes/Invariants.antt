-- the holes so far, and those before the blocks that are left, are those before all
use Rattle.std.proofs.Common.{◌≡◌, ◌++◌, drop}
use Rattle.c25_moving.specs.Holes.{holes}
use Rattle.c25_moving.proofs.paging.holes.Given as goal

abbrev pub invariant-loop-block : goal.invariant-loop-block
invariant-loop-block l = l.holes.items ++ holes l.filled (drop l.block-index l.blocks) ≡ holes 0 l.blocks
