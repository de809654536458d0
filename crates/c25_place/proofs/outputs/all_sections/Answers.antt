use Rattle.std.proofs.Common.{sym, ap, subst, List, All, ◌≤◌, ◌∙◌}
use Rattle.std.proofs.lemmas.List.{take_all}
use Rattle.c25_meaning_linking.specs.Place.{all_sections}
use Rattle.c25_meaning_objects.specs.Module.{body_size}
use Rattle.c25_module.specs.View.{body_data}
use Rattle.c25_module.specs.declared.parts.Section.{Section}
use Rattle.c25_meaning_objects.specs.Module.{Contents}
use Rattle.c25_place.proofs.Listed.{small_sections}
use Rattle.c25_place.proofs.outputs.all_sections.Goals as goal

pub push_sections-requires-clause-own : goal.push_sections-requires-clause-own
push_sections-requires-clause-own c =
    subst (λ (ss : List Section). All (λ s. body_size (body_data s.body) ≤ 65536) ss) (sym c.deref.ensures.value)
    (small_sections c.module-item.result c.parts.result.now.sections.items c.parts.ensures.spelled (ap (λ (m : Contents). m.sections) c.parts.ensures.kept))

pub returns-clause-sections : goal.returns-clause-sections
returns-clause-sections c =
    c.loop-module.invariant.0 ∙ ap (λ (ms : List Contents). all_sections ms) (take_all c.loop-module.module-index c.args.modules.now c.loop-module-test.false)

pub returns-clause-small : goal.returns-clause-small
returns-clause-small c = c.loop-module.invariant.1
