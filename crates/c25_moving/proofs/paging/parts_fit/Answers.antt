use Rattle.c25_moving.specs.BssPlace.{parts_fit}
use Rattle.c25_moving.proofs.BssPages.{part_further}
use Rattle.c25_moving.proofs.paging.parts_fit.Goals as goal

pub loop-part-preserved : goal.loop-part-preserved
loop-part-preserved c =
    part_further c.args.parts.now c.loop-part.part-index c.loop-part.start c.moved_on-start.result _ c.part-item.result c.as_slice.result.now c.are_in_pages.result (parts_fit c.args.address c.args.parts.now)
    c.loop-part-test.true c.part-item.is c.as_slice.ensures.value c.are_in_pages.ensures c.if-not-are_in_pages.false c.moved_on-start.ensures c.loop-part.invariant
