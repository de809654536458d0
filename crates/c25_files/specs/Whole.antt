-- When bytes are all that a reader has left.
use Rattle.std.specs.Prelude.{◌≡◌, ℕ, ◌≤◌, List, length, Option, IfSome}

-- bytes are all that a reader has left, where that is known; they are at most 16,777,216
abbrev pub IsAllOf : Option (List ℕ) → List ℕ → Type 0
IsAllOf known bytes = (length bytes ≤ 16777216) × IfSome known (λ all. bytes ≡ all)
