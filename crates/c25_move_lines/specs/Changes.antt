-- What becomes of a line.
use Rattle.std.specs.Prelude.{◌≡◌, ℕ, List, [], ◌∷◌, map, string_bytes}
use Rattle.c25_move_lines.specs.declared.change.Change.{Change}

-- the lines that a line becomes
abbrev pub lines_of : Change → List (List ℕ)
lines_of c = map string_bytes c.lines.items

-- a line of which no rule reports anything is unchanged
abbrev pub KeepsUnreported : List ℕ → Change → Type 0
KeepsUnreported line c = c.done.items ≡ [] → c.left.items ≡ [] → lines_of c ≡ line ∷ []
