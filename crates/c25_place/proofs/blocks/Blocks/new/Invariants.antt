-- what the modules so far ask is known
use Rattle.std.proofs.Common.{take}
use Rattle.c25_meaning_linking.specs.Place.{by_modules, part_blocks, size_of_parts}
use Rattle.c25_place.specs.Blocks.{KnowsFound}
use Rattle.c25_place.proofs.blocks.Blocks.new.Given as goal

abbrev pub invariant-loop-module : goal.invariant-loop-module
invariant-loop-module l = KnowsFound l.found (λ name. size_of_parts name (take l.module-index l.modules)) (λ name. by_modules (part_blocks l.modules name) 0 (take l.module-index l.modules))
