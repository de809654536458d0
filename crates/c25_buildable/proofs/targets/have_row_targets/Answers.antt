use Rattle.c25_buildable.proofs.Tables.{all_done, all_so_far}
use Rattle.c25_buildable.specs.Places.{HasTarget}
use Rattle.c25_layout.specs.declared.layout.Row.{Row}
use Rattle.c25_buildable.proofs.targets.have_row_targets.Goals as goal

pub loop-row-preserved : goal.loop-row-preserved
loop-row-preserved c = λ ns table.
    all_so_far (λ (r : Row). HasTarget ns r.item) c.args.rows.now c.loop-row.row-index c.row-item.result c.loop-row-test.true c.row-item.is (c.loop-row.invariant ns table) (c.has_target.ensures ns table c.if-not-has_target.false)

pub returns : goal.returns
returns c = λ ns table same. all_done (λ (r : Row). HasTarget ns r.item) c.args.rows.now c.loop-row.row-index c.loop-row-test.false (c.loop-row.invariant ns table)
