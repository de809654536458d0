use Rattle.std.proofs.Common.{refl}
use Rattle.c25_map.specs.View.{section_data}
use Rattle.c25_run_ends.proofs.Found.{found_by, none_by}
use Rattle.c25_run_ends.specs.Ground.{ends_before}
use Rattle.c25_run_ends.proofs.ground.section_before.Goals as goal

pub returns-then-ends_before : goal.returns-then-ends_before
returns-then-ends_before c =
    found_by (ends_before c.args.address) (λ s. s.place) section_data c.args.map.now.sections.items c.deref-section-items.result.now c.loop-section.section-index c.section-item.result c.ends_before.result
    (section_data c.section-item.result).place c.deref-section-items.ensures.value c.loop-section-test.true c.loop-section.invariant c.section-item.is c.ends_before.ensures c.if-ends_before.true refl

pub loop-section-preserved : goal.loop-section-preserved
loop-section-preserved c =
    none_by (ends_before c.args.address) section_data c.args.map.now.sections.items c.deref-section-items.result.now c.loop-section.section-index c.section-item.result c.ends_before.result
    c.deref-section-items.ensures.value c.loop-section-test.true c.loop-section.invariant c.section-item.is c.ends_before.ensures c.if-ends_before.false
