use Rattle.std.proofs.Common.{refl}
use Rattle.c25_pages.specs.Clauses.{IsOnAt}
use Rattle.c25_pages.proofs.Found.{all_more, all_whole}
use Rattle.c25_pages.proofs.Inductively.{sure_rows}
use Rattle.c25_pages.proofs.sure.is_surely_on.Goals as goal

pub loop-row-preserved : goal.loop-row-preserved
loop-row-preserved c =
    all_more (IsOnAt c.args.address c.args.page) c.deref-row-items.result.now c.args.table.now.rows.items c.loop-row.row-index _ c.deref-row-items.ensures.value c.loop-row-test.true c.loop-row.invariant (c.if-not-is_on.ensures refl)

pub returns : goal.returns
returns c =
    λ yes. sure_rows c.args.table.now c.args.address c.args.page (all_whole (IsOnAt c.args.address c.args.page) c.deref-row-items.result.now c.args.table.now.rows.items c.loop-row.row-index c.deref-row-items.ensures.value c.loop-row-test.false c.loop-row.invariant)
