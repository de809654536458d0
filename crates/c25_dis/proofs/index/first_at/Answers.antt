use Rattle.std.proofs.Common.{sym, ◌∙◌}
use Rattle.c25_dis.proofs.Found.{first_found, none_found}
use Rattle.c25_dis.proofs.index.first_at.Goals as goal

pub returns-in-None : goal.returns-in-None
returns-in-None g c =
    let place_of = λ (x : g.row.T.Denot). g.T.Stands.place_of x c.args.section in
    none_found place_of c.args.items.now c.args.index.now c.at.result.now c.requires c.args.place c.at.ensures (sym c.in-None.ensures.value)

pub returns-in-Some : goal.returns-in-Some
returns-in-Some g c =
    let place_of = λ (x : g.row.T.Denot). g.T.Stands.place_of x c.args.section in
    c.item_at.ensures ∙ first_found place_of c.args.items.now c.args.index.now c.at.result.now c.requires c.args.place c.at.ensures c.in-Some.found.now (sym c.in-Some.ensures.value)
