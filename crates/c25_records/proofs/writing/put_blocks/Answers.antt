use Rattle.c25_meaning_objects.specs.declared.object.Block.{Block}
use Rattle.c25_meaning_objects.specs.Records.{block_entry}
use Rattle.c25_records.proofs.Puts.{next_put}
use Rattle.c25_records.proofs.writing.put_blocks.Goals as goal

pub loop-block-preserved : goal.loop-block-preserved
loop-block-preserved c =
    let none : Block = record { section = 0; offset = 0; size = 0 } in
    next_put block_entry c.args.blocks.now c.loop-block.block-index none c.args.out.now.items c.loop-block.out.items c.put_block.new.out.items c.loop-block-test.true c.loop-block.invariant c.in_ok-put_block.ensures
