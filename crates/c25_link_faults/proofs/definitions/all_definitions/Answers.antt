use Rattle.std.proofs.Common.{List, take, ap, sym, ◌∙◌, ◌++◌}
use Rattle.c25_meaning_objects.specs.Module.{Contents}
use Rattle.c25_meaning_linking.specs.Place.{by_modules}
use Rattle.c25_meaning_linking.specs.Words.{Definition, module_definitions}
use Rattle.c25_module.specs.View.{contents}
use Rattle.c25_meaning_linking.proofs.ByModules.{by_modules_more, by_modules_all}
use Rattle.c25_link_faults.proofs.definitions.all_definitions.Goals as goal

pub loop-number-preserved : goal.loop-number-preserved
loop-number-preserved c =
    let i = c.loop-number.number in
    let so_far : List Definition = by_modules module_definitions 0 (take i c.args.modules.now) in
    c.in_ok-push_definitions.ensures
    ∙ ap (λ (ds : List Definition). ds ++ module_definitions i (contents c.parts.result.now)) c.loop-number.invariant
    ∙ ap (λ (m : Contents). so_far ++ module_definitions i m) c.parts.ensures.kept
    ∙ sym (by_modules_more module_definitions c.args.modules.now i c.index-modules-number.result c.loop-number-test.true c.index-modules-number.is)

pub returns : goal.returns
returns c = c.loop-number.invariant ∙ by_modules_all module_definitions c.args.modules.now c.loop-number.number c.loop-number-test.false
