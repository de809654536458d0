-- Which words of an image a program has.
use Rattle.std.specs.Prelude.{◌≡◌, ◌⊎◌, ℕ, Option, None}
use Rattle.std.specs.FinMap as finite
use Rattle.std.specs.Ordering.{nat_cmp}
use Rattle.c25_layout.specs.Blank.{IsBlank}

-- the word at an address of an image and the one of a program: both are the same, or the program has none in
-- place of one of `blank` erased words, one after the other
abbrev pub IsSameOrLeftOut : finite.FinMap nat_cmp ℕ → (blank address : ℕ) → Option ℕ → Option ℕ → Type 0
IsSameOrLeftOut words blank address image program = (program ≡ image) ⊎ (IsBlank words blank address × (program ≡ None))
