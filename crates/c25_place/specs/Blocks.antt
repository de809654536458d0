-- Where blocks let sections begin, as the code has it.
use Rattle.std.specs.Prelude.{◌≡◌, ℕ, ◌<◌, ◌%◌, Bool, true, false, List, length, replicate, slice_index_or, unwrap_or}
use Rattle.std.specs.Borrow.{Bor}
use Rattle.std.specs.HashMap.{HashMap}
use Rattle.c25_meaning_objects.specs.Module.{Contents}
use Rattle.c25_meaning_linking.specs.GoodMap.{blocks_fit}
use Rattle.c25_meaning_linking.specs.Place.{BlockData, blocks_of, size_of_parts}
use Rattle.c25_place.specs.View.{named}
use Rattle.c25_place.specs.declared.blocks.Blocks.{Blocks}
use Rattle.c25_place.specs.declared.blocks.Paging.{Paging}

-- whether blocks lie in one page each where their section begins is known by the place in a page where it begins
pub record KnowsFits (fits : List Bool) (blocks : List BlockData) : Type 0 where
  pub sized : length fits ≡ 128
  pub places : (place : ℕ) → place < 128 → slice_index_or fits place false ≡ blocks_fit place blocks

-- a paging is that of so many words and these blocks
pub record KnowsPaging (p : Paging) (words : ℕ) (blocks : List BlockData) : Type 0 where
  pub words_are : p.words % 128 ≡ words % 128
  pub fits_are : KnowsFits p.fits blocks

-- no words and no blocks
abbrev pub anywhere : Paging
anywhere = record { words = 0; fits = replicate 128 true }

-- each name has so many words, and these blocks
abbrev pub KnowsFound : {S : Type 0} → HashMap (Bor (List ℕ)) Paging S → (List ℕ → ℕ) → (List ℕ → List BlockData) → Type 0
KnowsFound found words blocks = (name : List ℕ) → KnowsPaging (unwrap_or (named found name) anywhere) (words name) (blocks name)

-- each name has the words and the blocks that modules have of it
abbrev pub KnowsBlocks : Blocks → List Contents → Type 0
KnowsBlocks b modules = KnowsFound b.found (λ name. size_of_parts name modules) (λ name. blocks_of name modules)
