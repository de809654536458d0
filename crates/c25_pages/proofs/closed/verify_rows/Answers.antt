use Rattle.std.proofs.Common.{refl}
use Rattle.c25_pages.specs.Clauses.{ClosedAt}
use Rattle.c25_pages.specs.Program.{statements_of}
use Rattle.c25_pages.proofs.Found.{all_more, all_whole}
use Rattle.c25_pages.proofs.Inductively.{closed_rows}
use Rattle.c25_pages.proofs.closed.verify_rows.Goals as goal

pub loop-row-preserved : goal.loop-row-preserved
loop-row-preserved c =
    all_more (ClosedAt (statements_of c.args.program.now)) c.deref-row-items.result.now c.args.table.now.rows.items c.loop-row.row-index _ c.deref-row-items.ensures.value c.loop-row-test.true c.loop-row.invariant (c.if-not-is_closed_at.ensures refl)

pub returns : goal.returns
returns c =
    closed_rows (statements_of c.args.program.now) c.args.table.now (all_whole (ClosedAt (statements_of c.args.program.now)) c.deref-row-items.result.now c.args.table.now.rows.items c.loop-row.row-index c.deref-row-items.ensures.value c.loop-row-test.false c.loop-row.invariant)
