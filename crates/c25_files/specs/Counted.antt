-- How many lines a text has.
use Rattle.std.specs.Prelude.{◌≡◌, ℕ, ◌≤◌, List, length}
use Rattle.std.specs.Str.Lines.{lines}

-- a text has so many lines; each of them has at least a byte of its own
pub record IsCounted (count : ℕ) (text : List ℕ) : Type 0 where
  pub counted : count ≡ length (lines text)
  pub few : count ≤ length text
