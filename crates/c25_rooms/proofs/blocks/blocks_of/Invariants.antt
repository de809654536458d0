-- the words and the blocks of the modules so far
use Rattle.std.proofs.Common.{◌≡◌, take}
use Rattle.c25_meaning_linking.specs.Place.{by_modules, part_blocks, size_of_parts}
use Rattle.c25_rooms.specs.Crossings.{blocks_data}
use Rattle.c25_rooms.proofs.blocks.blocks_of.Given as goal

abbrev pub invariant-loop-module : goal.invariant-loop-module
invariant-loop-module l = record {
  words : l.words ≡ size_of_parts l.name (take l.module-index l.modules);
  blocks : blocks_data l.list.items ≡ by_modules (part_blocks l.modules l.name) 0 (take l.module-index l.modules);
}
