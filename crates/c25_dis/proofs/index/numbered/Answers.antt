use Rattle.std.proofs.Common.{◌++◌, List, drop, ap, sym, ◌∙◌}
use Rattle.std.proofs.lemmas.List.{append-nil, drop_all}
use Rattle.c25_dis.specs.Index.{numbered}
use Rattle.c25_dis.proofs.index.numbered.Goals as goal

pub returns : goal.returns
returns g c =
    let place_of = λ (x : g.row.T.Denot). g.T.Stands.place_of x c.args.section in
    let index = c.loop-number.index.items in
    sym (append-nil index)
    ∙ sym (ap (λ (rest : List g.row.T.Denot). index ++ numbered place_of c.loop-number.number rest) (drop_all c.loop-number.number c.args.items.now c.loop-number-test.false))
    ∙ c.loop-number.invariant
