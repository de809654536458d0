-- Proposals of hints, a line each.
use Rattle.std.specs.Prelude.{◌≡◌, ℕ, List, Ok, length}
use Rattle.c25_layout.specs.Hints.{hints_of}
use Rattle.c25_layout.specs.declared.hint.Hint.{Hint}

-- a line is read as one hint
abbrev pub IsTaken : List ℕ → Type 0
IsTaken line = (hints : List (Hint (List ℕ))) × (hints_of line ≡ Ok hints) × (length hints ≡ 1)
