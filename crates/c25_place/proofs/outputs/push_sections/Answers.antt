use Rattle.std.proofs.Common.{◌++◌, List, ap, ◌∙◌}
use Rattle.std.proofs.lemmas.List.{take_all}
use Rattle.c25_module.specs.View.{sections_data}
use Rattle.c25_module.specs.declared.parts.Section.{Section}
use Rattle.c25_place.specs.View.{sections_view}
use Rattle.c25_place.proofs.outputs.push_sections.Goals as goal

pub returns-clause-sections : goal.returns-clause-sections
returns-clause-sections c =
    c.loop-section.invariant.0
    ∙ ap (λ (ss : List Section). sections_view c.args.sections.now.items ++ sections_data ss) (take_all c.loop-section.section-index c.args.own.now c.loop-section-test.false)

pub returns-clause-small : goal.returns-clause-small
returns-clause-small c = c.loop-section.invariant.1
