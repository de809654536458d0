use Rattle.c25_move_files.proofs.Parts.{part_further, part_here, part_nowhere}
use Rattle.c25_move_files.proofs.gathering.has_part.Goals as goal

pub loop-file-preserved : goal.loop-file-preserved
loop-file-preserved c =
    part_further c.args.files.now c.loop-file.file-index _ c.file-item.result c.as_str.result.now c.last_part.result.now c.args.part.now c.eq-is_same.result
    c.loop-file-test.true c.file-item.is c.as_str.ensures.value c.last_part.ensures c.eq-is_same.ensures c.if-is_same.false c.loop-file.invariant

pub returns-then-is_same : goal.returns-then-is_same
returns-then-is_same c =
    part_here c.args.files.now c.loop-file.file-index _ c.file-item.result c.as_str.result.now c.last_part.result.now c.args.part.now c.eq-is_same.result
    c.loop-file-test.true c.file-item.is c.as_str.ensures.value c.last_part.ensures c.eq-is_same.ensures c.if-is_same.true c.loop-file.invariant

pub returns : goal.returns
returns c = part_nowhere c.args.files.now c.loop-file.file-index c.args.part.now c.loop-file-test.false c.loop-file.invariant
