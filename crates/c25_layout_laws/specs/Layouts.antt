-- Which words and marks a program has of a layout.
use Rattle.std.specs.Prelude.{◌≡◌, ℕ, ◌+◌, List, [], ◌∷◌, ◌++◌, length, Option, None, Some, true, false, Bool, if◌then◌else◌}
use Rattle.std.specs.FinMap as finite
use Rattle.std.specs.List.{All, flat_map}
use Rattle.std.specs.List.Sorted.{IsPermutation}
use Rattle.std.specs.Ordering.{nat_cmp}
use Rattle.c25_layout.specs.Layout.{IsInOne, StandAt, item_words, rows_words}
use Rattle.c25_layout.specs.declared.layout.Item.{Item}
use Rattle.c25_layout.specs.declared.layout.Item.TheVariants as item
use Rattle.c25_layout.specs.declared.layout.Part.{Part}
use Rattle.c25_layout.specs.declared.layout.Row.{Row}
use Rattle.c25_meaning_image.specs.Marks.{fit_from, run_fit}
use Rattle.c25_meaning_image.specs.declared.mark.Mark.{Mark}
use Rattle.c25_meaning_image.specs.declared.mark.RunMark.{RunMark}

-- ---- words

-- an image has the words of parts at their addresses, and no others
pub record HasWordsOf (parts : List Part) (image : finite.FinMap nat_cmp ℕ) : Type 0 where
  pub stand : All (λ p. StandAt image p.address (rows_words p.rows.items)) parts
  pub none_else : (address word : ℕ) → finite.get image address ≡ Some word → IsInOne parts address

-- an image has no words
abbrev pub IsEmpty : finite.FinMap nat_cmp ℕ → Type 0
IsEmpty image = (address word : ℕ) → finite.get image address ≡ Some word → ⊥

-- ---- instructions

-- whether a row is an instruction
abbrev pub is_code : Item → Bool
is_code (item.Plain i) = true
is_code (item.Named i t) = true
is_code (item.Words ws) = false
is_code (item.Address number t) = false

-- the marks of rows that are loaded from one address on: one for each instruction
abbrev pub marks_from : ℕ → List Row → List Mark
marks_from address [] = []
marks_from address (r ∷ rows) =
    (if is_code r.item then record { address = address; size = length (item_words r.item) } ∷ [] else []) ++ marks_from (address + length (item_words r.item)) rows

-- the run marks of rows that are loaded from one address on and run from another on
abbrev pub run_marks_from : (load run : ℕ) → List Row → List RunMark
run_marks_from load run [] = []
run_marks_from load run (r ∷ rows) =
    (if is_code r.item then record { load = load; run = run; size = length (item_words r.item) } ∷ [] else [])
    ++ run_marks_from (load + length (item_words r.item)) (run + length (item_words r.item)) rows

-- a part's marks, if it runs where it is loaded, or else its run marks
abbrev pub marks_of_part : Option ℕ → Part → List Mark
marks_of_part None p = marks_from p.address p.rows.items
marks_of_part (Some run) p = []

abbrev pub run_marks_of_part : Option ℕ → Part → List RunMark
run_marks_of_part None p = []
run_marks_of_part (Some run) p = run_marks_from p.address run p.rows.items

-- an image has the marks of parts in ascending order, and their run marks in the order in which they run
pub record HasMarksOf (parts : List Part) (marks : List Mark) (run_marks : List RunMark) : Type 0 where
  pub same : IsPermutation (flat_map (λ p. marks_of_part p.run p) parts) marks
  pub ascend : fit_from 0 marks ≡ true
  pub same_runs : IsPermutation (flat_map (λ p. run_marks_of_part p.run p) parts) run_marks
  pub fit : run_fit marks run_marks ≡ true
