-- The last of a list.
use Rattle.std.specs.Prelude.{ℕ, ◌-◌, List, drop, length}

-- the last n of a list, or all where there are fewer
abbrev pub last_of : {A : Type 0} → ℕ → List A → List A
last_of n items = drop (length items - n) items
