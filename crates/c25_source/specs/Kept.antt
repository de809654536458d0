-- Which words of an image another one has: all of them, or all but erased ones (this project's own).
use Rattle.std.specs.Prelude.{◌≡◌, ℕ, ◌<◌, Option, Some, None}
use Rattle.std.specs.FinMap as finite
use Rattle.std.specs.Ordering.{nat_cmp}
use Rattle.c25_layout.specs.Blank.{IsBlank}

-- a word of an image is there, or it is missing where that may be; and there is no word where the image has none
abbrev pub WordKept : Type 0 → Option ℕ → Option ℕ → Type 0
WordKept missing None None = Unit {0}
WordKept missing None (Some found) = ⊥
WordKept missing (Some word) (Some found) = word ≡ found
WordKept missing (Some word) None = missing

-- the word at an address is kept: it may be missing where it is one of `blank` erased words, one after the other
abbrev pub IsKeptAt : finite.FinMap nat_cmp ℕ → finite.FinMap nat_cmp ℕ → (blank address : ℕ) → Type 0
IsKeptAt image found blank address = WordKept (IsBlank image blank address) (finite.get image address) (finite.get found address)

-- the words at all addresses are kept
abbrev pub IsKept : finite.FinMap nat_cmp ℕ → finite.FinMap nat_cmp ℕ → (blank : ℕ) → Type 0
IsKept image found blank = (address : ℕ) → address < 65536 → IsKeptAt image found blank address
