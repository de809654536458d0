use Rattle.std.proofs.Common.{List, Some, length, take, ap, sym, refl, ◌∙◌, ◌++◌}
use Rattle.std.proofs.lemmas.Option.{slice_get_read}
use Rattle.c25_meaning_objects.specs.Module.{Contents}
use Rattle.c25_meaning_linking.proofs.ByModules.{by_modules_more, by_modules_all}
use Rattle.c25_meaning_linking.specs.Place.{by_modules}
use Rattle.c25_module.specs.View.{contents}
use Rattle.c25_link.specs.Layout.{places_in}
use Rattle.c25_link.proofs.placed_items.all_items.Goals as goal

pub loop-number-preserved : goal.loop-number-preserved
loop-number-preserved g c =
    let modules = c.args.layout.now.modules.now in
    let i = c.loop-number.number in
    let own = g.T.PlacedItem.of_module modules (places_in c.args.layout.now) in
    let so_far : List g.row.T.Denot = by_modules own 0 (take i modules) in
    c.in_ok-push_all.ensures
    ∙ ap (λ (xs : List g.row.T.Denot). xs ++ own i (contents c.parts.result.now)) c.loop-number.invariant
    ∙ ap (λ (m : Contents). so_far ++ own i m) c.parts.ensures.kept
    ∙ sym (by_modules_more own modules i c.module-item.result c.loop-number-test.true c.module-item.is)

pub push_all-requires-clause-owner : goal.push_all-requires-clause-owner
push_all-requires-clause-owner g c =
    let modules = c.args.layout.now.modules.now in
    slice_get_read modules (length modules) c.loop-number.number c.module-item.result refl c.loop-number-test.true c.module-item.is ∙ ap Some (sym c.parts.ensures.kept)

pub returns : goal.returns
returns g c =
    let modules = c.args.layout.now.modules.now in
    c.loop-number.invariant ∙ by_modules_all (g.T.PlacedItem.of_module modules (places_in c.args.layout.now)) modules c.loop-number.number c.loop-number-test.false
