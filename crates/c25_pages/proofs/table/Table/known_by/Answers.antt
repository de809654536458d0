use Rattle.std.proofs.Common.{◌∙◌}
use Rattle.c25_pages.proofs.Order.{known_there}
use Rattle.c25_pages.proofs.table.Table.known_by.Goals as goal

pub returns-then-row-address : goal.returns-then-row-address
returns-then-row-address c = λ known e.
    let found = c.in-Some.ensures.lookup in
    known_there c.deref.result.now c.args.self.now.rows.items c.args.context c.args.address c.args.index c.in-Some.row.now c.in-Some.row.now
    c.deref.ensures.value c.requires found.3.0 found.1 c.if-row-context.true c.if-row-address.true
    ∙ e
