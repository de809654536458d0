use Rattle.std.proofs.Common.{List, ap, subst, sym, take, ◌++◌, ◌∙◌}
use Rattle.std.proofs.lemmas.List.{take_all}
use Rattle.c25_meaning_linking.specs.Place.{all_sections}
use Rattle.c25_meaning_objects.specs.Module.{Contents}
use Rattle.c25_module.specs.View.{sections_data}
use Rattle.c25_link_faults.specs.View.{HasFirst, section_names}
use Rattle.c25_link_faults.proofs.More.{modules_next, names_joined}
use Rattle.c25_link_faults.proofs.sections.add_all.Goals as goal

pub loop-module-preserved : goal.loop-module-preserved
loop-module-preserved c = λ before has.
    let modules = c.args.modules.now in
    let i = c.loop-module.module-index in
    let m : Contents = c.module-item.result in
    let so_far = section_names (all_sections (take i modules)) in
    let same = ap sections_data c.deref.ensures.value ∙ ap (λ (o : Contents). o.sections) c.parts.ensures.kept in
    let next = ap section_names (modules_next modules i m c.loop-module-test.true c.module-item.is) ∙ names_joined (all_sections (take i modules)) m.sections in
    subst (HasFirst c.add_names.new.names before) (sym next)
    (subst (λ ss. HasFirst c.add_names.new.names before (so_far ++ section_names ss)) same (c.in_ok-add_names.ensures before so_far (c.loop-module.invariant before has)))

pub returns : goal.returns
returns c = λ before has.
    subst (λ (ms : List Contents). HasFirst c.loop-module.names before (section_names (all_sections ms)))
    (take_all c.loop-module.module-index c.args.modules.now c.loop-module-test.false) (c.loop-module.invariant before has)
