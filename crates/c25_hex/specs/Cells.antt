-- Lists of cells as bytes by their addresses.
use Rattle.std.specs.Prelude.{ℕ, ◌+◌, Bool, false, ◌||◌, not, List, [], ◌∷◌, Option, Some, None, is_some}
use Rattle.std.specs.Ordering.{nat_cmp}
use Rattle.std.specs.FinMap as map

-- the bytes that are given in cells, with their addresses from a first one on
abbrev pub entries_from : ℕ → List (Option ℕ) → List (ℕ × ℕ)
entries_from place [] = []
entries_from place (None ∷ cells) = entries_from (place + 1) cells
entries_from place (Some b ∷ cells) = (place, b) ∷ entries_from (place + 1) cells

-- the bytes by their addresses
unfoldable pub cells_map : List (Option ℕ) → map.FinMap nat_cmp ℕ
cells_map cells = map.from_entries (entries_from 0 cells)

-- whether both cells of a word are given, or neither
abbrev pub same_given : Option ℕ → Option ℕ → Bool
same_given None low = not (is_some low)
same_given (Some high) low = is_some low

-- whether one cell alone of a word is given
abbrev pub has_odd_pair : List (Option ℕ) → Bool
has_odd_pair [] = false
has_odd_pair (high ∷ []) = is_some high
has_odd_pair (high ∷ low ∷ rest) = not (same_given high low) || has_odd_pair rest
