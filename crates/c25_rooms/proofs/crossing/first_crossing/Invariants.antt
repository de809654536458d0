-- these are the addresses, and there are some, where the blocks so far lie in their pages
use Rattle.std.proofs.Common.{◌≡◌, ◌<◌, length, take}
use Rattle.c25_rooms.specs.Crossings.{blocks_data}
use Rattle.c25_rooms.proofs.Crossed.{left_for}
use Rattle.c25_rooms.proofs.crossing.first_crossing.Given as goal

abbrev pub invariant-loop-block : goal.invariant-loop-block
invariant-loop-block l = record {
  some : 0 < length l.bases.items;
  left : l.bases.items ≡ left_for l.fn.start.items (blocks_data (take l.block-index l.blocks));
}
