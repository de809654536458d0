use Rattle.std.proofs.Common.{refl}
use Rattle.c25_map.specs.View.{section_data}
use Rattle.c25_run_ends.proofs.Found.{found_by, none_by}
use Rattle.c25_run_ends.specs.Ground.{has_word}
use Rattle.c25_run_ends.proofs.ground.section_at.Goals as goal

pub returns-then-has_word : goal.returns-then-has_word
returns-then-has_word c =
    found_by (has_word c.args.address) (λ s. s.place) section_data c.args.map.now.sections.items c.deref-section-items.result.now c.loop-section.section-index c.section-item.result c.has_word.result
    (section_data c.section-item.result).place c.deref-section-items.ensures.value c.loop-section-test.true c.loop-section.invariant c.section-item.is c.has_word.ensures c.if-has_word.true refl

pub loop-section-preserved : goal.loop-section-preserved
loop-section-preserved c =
    none_by (has_word c.args.address) section_data c.args.map.now.sections.items c.deref-section-items.result.now c.loop-section.section-index c.section-item.result c.has_word.result
    c.deref-section-items.ensures.value c.loop-section-test.true c.loop-section.invariant c.section-item.is c.has_word.ensures c.if-has_word.false
