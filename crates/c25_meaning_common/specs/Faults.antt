-- How a fault is written: its number, its name and its place.
use Rattle.std.specs.Prelude.{ℕ, List, ◌++◌, codes}
use Rattle.std.specs.Fmt.{decimal}

-- a fault's number and name, as a report shows them: `10 BadLabel`
abbrev pub numbered : ℕ → List ℕ → List ℕ
numbered number name = decimal number ++ codes " " ++ name

-- a fault with the file's name and the line's number before it: `a.asm:3: 10 BadLabel`
abbrev pub placed_text : List ℕ → ℕ → List ℕ → List ℕ
placed_text name line fault = name ++ codes ":" ++ decimal line ++ codes ": " ++ fault
