use Rattle.std.proofs.Common.{◌++◌, ap, ◌∙◌}
use Rattle.c25_meaning_assembly.specs.Sections.{Section}
use Rattle.c25_phases.proofs.Gathered.{one_more}
use Rattle.c25_phases.proofs.sections.Sections.blocks.Goals as goal

pub loop-section-preserved : goal.loop-section-preserved
loop-section-preserved c =
    let before = c.loop-section.blocks.items in
    one_more (λ (s : Section). s.blocks) c.deref-section-items.result.now c.loop-section.section-index _ before _ _ c.loop-section-test.true
    (c.in_ok-extend_from_slice.ensures.items ∙ ap (λ l. before ++ l) (c.blocks-in-loop-section.ensures ∙ ap (λ (s : Section). s.blocks) c.section-item.is))
    c.loop-section.invariant
