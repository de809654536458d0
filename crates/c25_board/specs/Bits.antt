-- Bits that stand for a list of addresses.
use Rattle.std.specs.Prelude.{◌≡◌, ℕ, ◌/◌, ◌%◌, ◌==◌, Bool, List, slice_index}
use Rattle.std.specs.Int.{bit_at}
use Rattle.c25_meaning_processor.specs.Goes.{is_breakpoint}

-- the bit of an address among words of 64 bits
abbrev pub bit_of : List ℕ → ℕ → Bool
bit_of words address = bit_at (slice_index words (address / 64)) (address % 64) == 1

-- the addresses whose bits are set are those of the list
abbrev pub KnowsAll : List ℕ → List ℕ → Type 0
KnowsAll breaks words = (address : ℕ) → bit_of words address ≡ is_breakpoint breaks address
