use Rattle.std.proofs.Common.{◌≡◌, ◌++◌, take}
use Rattle.std.specs.List.{flat_map}
use Rattle.c25_meaning_objects.specs.Records.{block_entry}
use Rattle.c25_records.proofs.writing.put_blocks.Given as goal

abbrev pub invariant-loop-block : goal.invariant-loop-block
invariant-loop-block l = l.out.items ≡ l.fn.out.items ++ flat_map block_entry (take l.block-index l.blocks)
