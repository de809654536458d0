use Rattle.c25_moving.proofs.OldTexts.{text_further, text_here, text_nowhere}
use Rattle.c25_moving.proofs.moving.has_text.Goals as goal

pub loop-file-preserved : goal.loop-file-preserved
loop-file-preserved c =
    text_further c.args.files.now c.loop-file.file-index _ c.file-item.result c.args.text.now c.is_text_of.result c.loop-file-test.true c.file-item.is c.is_text_of.ensures c.if-is_text_of.false c.loop-file.invariant

pub returns-then-is_text_of : goal.returns-then-is_text_of
returns-then-is_text_of c =
    text_here c.args.files.now c.loop-file.file-index _ c.file-item.result c.args.text.now c.is_text_of.result c.loop-file-test.true c.file-item.is c.is_text_of.ensures c.if-is_text_of.true c.loop-file.invariant

pub returns : goal.returns
returns c = text_nowhere c.args.files.now c.loop-file.file-index c.args.text.now c.loop-file-test.false c.loop-file.invariant
