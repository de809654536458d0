-- the words so far are added
use Rattle.std.proofs.Common.{◌+◌, ℕ, List, take}
use Rattle.std.specs.List.{sum_by}
use Rattle.c25_meaning_linking.specs.Place.{BlockData, size_for}
use Rattle.c25_module.specs.View.{sections_data}
use Rattle.c25_place.specs.Blocks.{KnowsFound}
use Rattle.c25_place.proofs.blocks.add_words.Given as goal

abbrev pub invariant-loop-section : goal.invariant-loop-section
invariant-loop-section l = (words : List ℕ → ℕ) (blocks : List ℕ → List BlockData) → KnowsFound l.fn.found words blocks
    → KnowsFound l.found (λ name. words name + sum_by (size_for name) (sections_data (take l.section-index l.sections))) blocks
