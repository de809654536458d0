use Rattle.c25_buildable.proofs.Nameless.{rows_done, rows_so_far}
use Rattle.c25_buildable.proofs.bare.bare_rows.Goals as goal

pub loop-row-preserved : goal.loop-row-preserved
loop-row-preserved c =
    rows_so_far c.args.rows.now c.loop-row.made.items c.push.new.self.items c.loop-row.row-index c.row-item.result c.in_ok-bare.bare c.loop-row-test.true c.row-item.is c.loop-row.invariant c.in_ok-bare.ensures
    c.in_ok-push.ensures.items

pub returns : goal.returns
returns c = rows_done c.args.rows.now c.loop-row.made.items c.loop-row.row-index c.loop-row-test.false c.loop-row.invariant
