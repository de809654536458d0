use Rattle.c25_moving.specs.Holes.{holes}
use Rattle.c25_moving.proofs.BlockHoles.{all_holes, one_hole}
use Rattle.c25_moving.proofs.paging.holes.Goals as goal

pub loop-block-preserved : goal.loop-block-preserved
loop-block-preserved c =
    one_hole c.args.blocks.now c.loop-block.block-index _ c.loop-block.filled c.moved_on-next.result c.moved_on-place.result c.hole_at-hole.result c.loop-block.holes.items c.push.new.self.items (holes 0 c.args.blocks.now)
    c.loop-block-test.true c.in_ok-push.ensures.items c.moved_on-place.ensures c.hole_at-hole.ensures c.moved_on-next.ensures c.loop-block.invariant

pub returns : goal.returns
returns c = all_holes c.args.blocks.now c.loop-block.block-index c.loop-block.filled c.loop-block.holes.items (holes 0 c.args.blocks.now) c.loop-block-test.false c.loop-block.invariant
