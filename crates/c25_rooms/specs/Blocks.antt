-- The blocks of a section, one more at a time.
use Rattle.std.specs.Prelude.{ℕ, List, [], ◌∷◌, if◌then◌else◌}
use Rattle.c25_meaning_linking.specs.Place.{BlockData, block_behind, is_block_named}
use Rattle.c25_meaning_objects.specs.Module.{Contents}
use Rattle.c25_meaning_objects.specs.declared.object.Block.{Block}

-- what one block of a module adds to the blocks of the section of a name, where its part has so many words before it
abbrev pub one_block : List ℕ → (words : ℕ) → Contents → Block → List BlockData
one_block name words m b = if is_block_named name m b then block_behind words b ∷ [] else []
