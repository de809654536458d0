use Rattle.std.proofs.Common.{◌≤◌, List, length, subst, ap, sym, ◌∙◌}
use Rattle.c25_meaning_assembly.specs.Emission.{with_line}
use Rattle.c25_meaning_assembly.specs.Sections.{Section}
use Rattle.std.specs.List.{flat_map, fold}
use Rattle.c25_phases.proofs.Filed.{few_section}
use Rattle.c25_phases.proofs.sections.Sections.put_lines.Goals as goal

pub add_all-requires : goal.add_all-requires
add_all-requires c =
    let all_of = λ (ss : List Section). fold with_line c.args.lines.now (flat_map (λ s. s.origins) ss) in
    subst (λ os. length (fold with_line c.loop-section.lines os).files ≤ 65535) (sym (c.lines.ensures ∙ ap (λ s. s.origins) c.section-item.is))
    (few_section c.deref-section-items.result.now c.loop-section.section-index _ c.loop-section.lines _ 65535 c.loop-section-test.true
    (c.loop-section.invariant ∙ ap all_of (c.deref-section-items.ensures.value ∙ c.self.view_is)) c.requires)
