use Rattle.std.proofs.Common.{ap, ◌∙◌, find}
use Rattle.std.specs.Option.{option_map}
use Rattle.c25_meaning_linking.specs.Linking.{spills, module_uses}
use Rattle.c25_meaning_objects.specs.Module.{Contents}
use Rattle.c25_link.specs.Layout.{places_in}
use Rattle.c25_link.specs.Misfits.{misfit_data, misfit_of}
use Rattle.c25_link.proofs.Search.{found_at, none_more}
use Rattle.c25_link.proofs.misfits.misfit_among.Goals as goal

pub returns-in-Some : goal.returns-in-Some
returns-in-Some c =
    let modules = c.args.layout.now.modules.now in
    let places = places_in c.args.layout.now in
    let i = c.loop-number.number in
    found_at (spills modules places) (misfit_of modules places) module_uses modules i c.module-item.result (misfit_data c.in-Some.misfit) c.loop-number-test.true c.module-item.is c.loop-number.invariant
    (c.in-Some.ensures ∙ ap (λ (m : Contents). option_map (misfit_of modules places) (find (spills modules places) (module_uses i m))) c.parts.ensures.kept)

pub loop-number-preserved : goal.loop-number-preserved
loop-number-preserved c =
    let modules = c.args.layout.now.modules.now in
    let places = places_in c.args.layout.now in
    let i = c.loop-number.number in
    none_more (spills modules places) (misfit_of modules places) module_uses modules i c.module-item.result c.loop-number-test.true c.module-item.is c.loop-number.invariant
    (c.in-None.ensures ∙ ap (λ (m : Contents). option_map (misfit_of modules places) (find (spills modules places) (module_uses i m))) c.parts.ensures.kept)
