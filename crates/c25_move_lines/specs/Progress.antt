-- What a line leaves to those that follow.
use Rattle.std.specs.Prelude.{◌≡◌, ℕ, ◌+◌, ◌-◌, ◌^◌, min, Bool, true, false, if◌then◌else◌, List, [], ◌∷◌, codes, Option, Some, None}
use Rattle.std.specs.Str.{str_eq_ignore_ascii_case}
use Rattle.c25_move_lines.specs.declared.around.Progress.{Progress}

-- the number of blocks with one more, which stays at the largest number that is counted
abbrev pub another_block : ℕ → ℕ
another_block blocks = min (blocks + 1) (2 ^ 64 - 1)

-- whether two words have the same letters, in either case
unfoldable pub is_spelled : List ℕ → List ℕ → Bool
is_spelled word other = str_eq_ignore_ascii_case word other

-- whether a word is one of these, letters in either case
unfoldable pub is_one_of : List (List ℕ) → List ℕ → Bool
is_one_of [] word = false
is_one_of (w ∷ ws) word = if is_spelled word w then true else is_one_of ws word

-- whether a word enters a section
unfoldable pub enters_section : List ℕ → Bool
enters_section word =
    is_one_of (codes "AORG" ∷ codes ".asect" ∷ codes "PSEG" ∷ codes "RORG" ∷ codes "DSEG" ∷ codes "CSEG" ∷ codes ".text" ∷ codes ".data" ∷ codes ".sect" ∷ []) word

-- whether a word ends a segment or a dummy section
unfoldable pub ends_segment : List ℕ → Bool
ends_segment word = is_one_of (codes "PEND" ∷ codes "CEND" ∷ codes "DEND" ∷ []) word

-- whether a word begins a block of local labels, and whether it ends a dummy section
abbrev pub begins_block : List ℕ → Bool
begins_block word = if enters_section word then true else is_spelled word (codes ".newblock")

abbrev pub ends_dummy : List ℕ → Bool
ends_dummy word = if enters_section word then true else (if is_spelled word (codes ".newblock") then false else ends_segment word)

-- what a line with this word leaves: the addresses stay
pub record IsPassedWord (word : List ℕ) (old new : Progress) : Type 0 where
  pub blocks : new.blocks ≡ (if begins_block word then another_block old.blocks else old.blocks)
  pub dummy : new.dummy ≡ (if ends_dummy word then None else old.dummy)
  pub addresses : new.addresses ≡ old.addresses

-- what a line leaves, which has this word, if it has one
abbrev pub IsPassed : Option (List ℕ) → Progress → Progress → Type 0
IsPassed None old new = new ≡ old
IsPassed (Some word) old new = IsPassedWord word old new
