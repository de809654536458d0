use Rattle.std.proofs.Common.{arith, ◌+◌}
use Rattle.c25_link_faults.proofs.Spanned.{section_more}
use Rattle.c25_rooms.proofs.Summed.{part_le}
use Rattle.c25_rooms.proofs.blocks.words_with.Goals as goal

pub overflow_add-words : goal.overflow_add-words
overflow_add-words c =
    let name = c.args.name.now in
    let ss = c.args.sections.now in
    let i = c.loop-section.section-index in
    let more = section_more name ss i c.section-item.result c.loop-section-test.true c.section-item.is in
    let upto = part_le name ss (i + 1) in
    omega (arith, more, upto, c.size_for-words.ensures, c.loop-section.invariant, c.requires.sum)
