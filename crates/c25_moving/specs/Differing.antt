-- Where the words of two programs differ.
use Rattle.std.specs.Prelude.{◌≡◌, ◌⊎◌, ℕ, ◌^◌, ◌<◌, List, length}
use Rattle.std.specs.FinMap as finite
use Rattle.std.specs.List.{All, Contains}
use Rattle.std.specs.List.Sorted.{IsStrictlyIncreasing}
use Rattle.c25_move_files.specs.Task.{Words}

-- how many words a program has
abbrev pub count_of : Words → ℕ
count_of words = length (finite.entries words)

-- two programs have the same at an address: one word, or none
abbrev pub IsSameAt : (old new : Words) → (address : ℕ) → Type 0
IsSameAt old new address = finite.get old address ≡ finite.get new address

-- two programs have the same at each address of program memory
abbrev pub IsSame : (old new : Words) → Type 0
IsSame old new = (address : ℕ) → address < 2 ^ 16 → IsSameAt old new address

-- these are the addresses below a limit at which two programs differ, in ascending order
pub record AreDifferences (old new : Words) (limit : ℕ) (addresses : List ℕ) : Type 0 where
  pub ascend : IsStrictlyIncreasing addresses
  pub below : All (λ address. address < limit) addresses
  pub differ : All (λ address. ¬ IsSameAt old new address) addresses
  pub others : (address : ℕ) → address < limit → IsSameAt old new address ⊎ Contains addresses address
