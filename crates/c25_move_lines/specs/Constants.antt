-- Constants of old sources as the assembler reads them.
use Rattle.std.specs.Prelude.{ℕ, Bool, ◌∷◌, [], ◌++◌, List, codes, slice_index, nat_lt, if◌then◌else◌}

-- whether a text begins with a character from `A` on: a hexadecimal digit that does is a letter
abbrev pub begins_with_letter : List ℕ → Bool
begins_with_letter digits = nat_lt 57 (slice_index digits 0)

-- the constant of these hexadecimal digits: with an `h` after them, and with a `0` before a letter
unfoldable pub hexadecimal : List ℕ → List ℕ
hexadecimal digits = if begins_with_letter digits then codes "0" ++ digits ++ codes "h" else digits ++ codes "h"
