use Rattle.std.proofs.Common.{All, List, subst}
use Rattle.c25_buildable.proofs.Tables.{all_done, all_so_far}
use Rattle.c25_buildable.specs.Places.{HasTarget}
use Rattle.c25_layout.specs.declared.layout.Part.{Part}
use Rattle.c25_layout.specs.declared.layout.Row.{Row}
use Rattle.c25_buildable.proofs.targets.have_targets.Goals as goal

pub loop-part-preserved : goal.loop-part-preserved
loop-part-preserved c = λ ns table.
    all_so_far (λ (p : Part). All (λ (r : Row). HasTarget ns r.item) p.rows.items) c.args.parts.now c.loop-part.part-index c.part-item.result c.loop-part-test.true c.part-item.is (c.loop-part.invariant ns table)
    (subst (λ (rows : List Row). All (λ (r : Row). HasTarget ns r.item) rows) c.deref.ensures.value (c.have_row_targets.ensures ns table c.if-not-have_row_targets.false))

pub returns : goal.returns
returns c = λ ns table same. all_done (λ (p : Part). All (λ (r : Row). HasTarget ns r.item) p.rows.items) c.args.parts.now c.loop-part.part-index c.loop-part-test.false (c.loop-part.invariant ns table)
