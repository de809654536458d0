-- What it means that the names of symbols differ, by the symbols' numbers.
use Rattle.std.specs.Prelude.{◌≡◌, ◌≢◌, ℕ, ◌+◌, ◌<◌, false, slice_index, List, [], length, Option, Some, None}
use Rattle.std.specs.List.{slice_get}
use Rattle.std.specs.Ordering.{is_lt, nat_cmp}
use Rattle.std.specs.Cmp.Lexicographic.{slice_cmp}
use Rattle.c25_meaning_objects.specs.Module.{SymbolData}

-- the name of a symbol, empty where there is none
abbrev pub name_of : Option SymbolData → List ℕ
name_of None = []
name_of (Some y) = y.name

-- the name of the symbol of a number, empty where there is none
abbrev pub name_at : List SymbolData → ℕ → List ℕ
name_at symbols number = name_of (slice_get symbols number)

-- two symbols of one name are one
abbrev pub NamesDiffer : List SymbolData → Type 0
NamesDiffer symbols = (i j : ℕ) → i < length symbols → j < length symbols → name_at symbols i ≡ name_at symbols j → i ≡ j

-- the names of the symbols with these numbers ascend
abbrev pub IsSortedByName : List SymbolData → List ℕ → Type 0
IsSortedByName symbols numbers =
    (k : ℕ) → k + 1 < length numbers
    → is_lt (slice_cmp nat_cmp (name_at symbols (slice_index numbers (k + 1))) (name_at symbols (slice_index numbers k))) ≡ false

-- no two neighbours among these numbers have one name
abbrev pub NeighboursDiffer : List SymbolData → List ℕ → Type 0
NeighboursDiffer symbols numbers =
    (k : ℕ) → k + 1 < length numbers → name_at symbols (slice_index numbers k) ≢ name_at symbols (slice_index numbers (k + 1))
