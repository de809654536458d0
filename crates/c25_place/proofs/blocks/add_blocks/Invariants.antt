-- the blocks so far are added
use Rattle.std.proofs.Common.{◌++◌, ℕ, List, take, map, filter}
use Rattle.c25_meaning_linking.specs.Place.{BlockData, block_behind, is_block_named}
use Rattle.c25_module.specs.View.{contents}
use Rattle.c25_place.specs.Blocks.{KnowsFound}
use Rattle.c25_place.proofs.blocks.add_blocks.Given as goal

abbrev pub invariant-loop-block : goal.invariant-loop-block
invariant-loop-block l = (words : List ℕ → ℕ) (blocks : List ℕ → List BlockData) → KnowsFound l.fn.found words blocks
    → KnowsFound l.found words (λ name. blocks name ++ map (block_behind (words name)) (filter (is_block_named name (contents l.owner)) (take l.block-index l.owner.blocks.items)))
