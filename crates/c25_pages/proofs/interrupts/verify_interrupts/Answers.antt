use Rattle.std.proofs.Common.{refl}
use Rattle.c25_pages.specs.Clauses.{InterruptsAt}
use Rattle.c25_pages.specs.Table.{knowledge_of}
use Rattle.c25_pages.proofs.Found.{all_more, all_whole}
use Rattle.c25_pages.proofs.interrupts.verify_interrupts.Goals as goal

pub loop-row-preserved : goal.loop-row-preserved
loop-row-preserved c =
    all_more (InterruptsAt (knowledge_of c.args.table.now)) c.deref-row-items.result.now c.args.table.now.rows.items c.loop-row.row-index _ c.deref-row-items.ensures.value c.loop-row-test.true c.loop-row.invariant (c.if-not-interrupts_at.ensures refl)

pub returns : goal.returns
returns c =
    all_whole (InterruptsAt (knowledge_of c.args.table.now)) c.deref-row-items.result.now c.args.table.now.rows.items c.loop-row.row-index c.deref-row-items.ensures.value c.loop-row-test.false c.loop-row.invariant
