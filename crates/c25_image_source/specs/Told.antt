-- What is printed of the source of an image (this project's own).
use Rattle.std.specs.Prelude.{◌≡◌, ℕ, List, ◌++◌, codes, length, String, string_bytes}
use Rattle.std.specs.FinMap as finite
use Rattle.std.specs.List.{All, flat_map}
use Rattle.std.specs.Ordering.{nat_cmp}
use Rattle.std.specs.declared.alloc.Global.{Global}
use Rattle.c25_layout.specs.declared.layout.Part.{Part}
use Rattle.c25_reach.specs.Proposals.{IsTaken}
use Rattle.c25_reach.specs.ReachLine.{reach_line}
use Rattle.c25_reach.specs.Reached.{parts_reach}

-- how many words an image has
abbrev pub count_of : finite.FinMap nat_cmp ℕ → ℕ
count_of words = length (finite.entries words)

-- a line as a comment of a file of hints
abbrev pub comment_line : List ℕ → List ℕ
comment_line line = codes "; " ++ line ++ codes "\n"

abbrev pub comment_of : String Global → List ℕ
comment_of line = comment_line (string_bytes line)

-- a text says how much of an image was reached, after a name, and has proposals after that, each a line that is taken as a hint
-- where it stands without the `;` in front
abbrev pub IsTold : (name : List ℕ) → finite.FinMap nat_cmp ℕ → List Part → (text : List ℕ) → Type 0
IsTold name words parts text =
    (proposals : List (String Global)) × All (λ line. IsTaken (string_bytes line)) proposals
    × (text ≡ codes "; " ++ reach_line name (count_of words) (parts_reach parts) ++ flat_map comment_of proposals)
