use Rattle.std.proofs.Common.{List, Some, length, take, ap, sym, refl, ◌∙◌, ◌++◌}
use Rattle.std.proofs.lemmas.Option.{slice_get_read}
use Rattle.c25_meaning_linking.specs.Linking.{section_parts}
use Rattle.c25_meaning_linking.specs.MapText.{PartData}
use Rattle.c25_meaning_objects.specs.Module.{Contents}
use Rattle.c25_meaning_linking.specs.Place.{by_modules}
use Rattle.c25_module.specs.View.{contents}
use Rattle.c25_link.specs.Layout.{places_in}
use Rattle.c25_meaning_linking.proofs.ByModules.{by_modules_more, by_modules_all}
use Rattle.c25_link.proofs.described.parts_by_name.Goals as goal

pub loop-number-preserved : goal.loop-number-preserved
loop-number-preserved c = λ name.
    let modules = c.args.layout.now.modules.now in
    let i = c.loop-number.number in
    let parts = section_parts modules (places_in c.args.layout.now) name in
    let so_far : List PartData = by_modules parts 0 (take i modules) in
    c.in_ok-add_parts.ensures name
    ∙ ap (λ (ps : List PartData). ps ++ parts i (contents c.parts.result.now)) (c.loop-number.invariant name)
    ∙ ap (λ (m : Contents). so_far ++ parts i m) c.parts.ensures.kept
    ∙ sym (by_modules_more parts modules i c.module-item.result c.loop-number-test.true c.module-item.is)

pub add_parts-requires-clause-owner : goal.add_parts-requires-clause-owner
add_parts-requires-clause-owner c =
    let modules = c.args.layout.now.modules.now in
    slice_get_read modules (length modules) c.loop-number.number c.module-item.result refl c.loop-number-test.true c.module-item.is ∙ ap Some (sym c.parts.ensures.kept)

pub returns : goal.returns
returns c = λ name.
    let modules = c.args.layout.now.modules.now in
    c.loop-number.invariant name ∙ by_modules_all (section_parts modules (places_in c.args.layout.now) name) modules c.loop-number.number c.loop-number-test.false
