-- Where a line and a column begin.
use Rattle.std.proofs.Common.{◌≡◌, ℕ, ◌+◌, Bool, true, cond, List, [], ◌∷◌, refl, ap}
use Rattle.c25_cmd.specs.Refused.{column_behind}
use Rattle.c25_file_hints.specs.CommandFiles.{is_place, line_behind, place_from}

-- a text that begins at the line and the column that are wanted has them at its first byte
pub found_here : (wanted_line wanted_column at line column : ℕ) (bytes : List ℕ)
    → is_place wanted_line wanted_column line column ≡ true → place_from wanted_line wanted_column at line column bytes ≡ at
unfolding place_from
found_here wanted_line wanted_column at line column [] is = refl
found_here wanted_line wanted_column at line column (b ∷ bs) is =
    ap (λ (here : Bool). cond {A = ℕ} here at (place_from wanted_line wanted_column (at + 1) (line_behind line b) (column_behind column b) bs)) is
