-- the blocks so far that are in the section of the name
use Rattle.std.proofs.Common.{◌≡◌, ◌++◌, filter, map, take}
use Rattle.c25_meaning_linking.specs.Place.{block_behind, is_block_named}
use Rattle.c25_module.specs.View.{contents}
use Rattle.c25_rooms.specs.Crossings.{blocks_data}
use Rattle.c25_rooms.proofs.blocks.push_blocks.Given as goal

abbrev pub invariant-loop-block : goal.invariant-loop-block
invariant-loop-block l = blocks_data l.list.items ≡ blocks_data l.initial.list.items ++ map (block_behind l.words) (filter (is_block_named l.name (contents l.owner)) (take l.block-index l.owner.blocks.items))
