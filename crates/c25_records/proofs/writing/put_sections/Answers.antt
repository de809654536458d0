use Rattle.c25_meaning_objects.specs.Records.{section_entry}
use Rattle.c25_module.specs.View.{section_data}
use Rattle.c25_records.proofs.Puts.{next_seen}
use Rattle.c25_module.proofs.Small.{sections_small}
use Rattle.c25_records.proofs.writing.put_sections.Goals as goal

pub put_section-requires-clause-named : goal.put_section-requires-clause-named
put_section-requires-clause-named c = rw c.section-item.is ((sections_small c.args.sections.now c.requires c.loop-section.section-index _ c.loop-section-test.true).0)

pub put_section-requires-clause-sized : goal.put_section-requires-clause-sized
put_section-requires-clause-sized c = rw c.section-item.is ((sections_small c.args.sections.now c.requires c.loop-section.section-index _ c.loop-section-test.true).1)

pub loop-section-preserved : goal.loop-section-preserved
loop-section-preserved c =
    next_seen section_data section_entry c.args.sections.now c.loop-section.section-index c.section-item.result c.args.out.now.items c.loop-section.out.items c.put_section.new.out.items c.loop-section-test.true c.section-item.is c.loop-section.invariant
    c.in_ok-put_section.ensures
