-- When an operand of an old source and the one that takes its place have the same value. Where local labels get names
-- (`Labels`), it is the value of the old operand where each local label stands for what its new name stands for.
use Rattle.std.specs.Prelude.{◌≡◌, ◌⊎◌, ℕ, false, List, [], ◌∷◌, map, Option, Some, None, Ok}
use Rattle.c25_meaning_language.specs.Tree.{Tree, Mark, IsTreeOf}
use Rattle.c25_meaning_language.specs.Value.{value_of}
use Rattle.c25_meaning_language.specs.declared.value.Value.{Value}
use Rattle.c25_old_expressions.specs.declared.order.Order.{Order}
use Rattle.c25_meaning_language.specs.Line.{Parts, line_of}
use Rattle.c25_old_expressions.specs.Labels.{are_renamed, renamed, renamed_symbol}
use Rattle.c25_old_expressions.specs.Marks.{Sym, mark, operands_of, symbols_of}
use Rattle.c25_old_expressions.specs.OldReading.{old_tree}
use Rattle.c25_old_expressions.specs.OldSymbols.{old_symbols, operand_text}

-- the tokens of an old operand, whose operators act in this order, are an expression, those of the new operand are one
-- for the assembler, and both have the same value or the same fault, whatever the names and `$` stand for, and each local label
-- for what its new name stands for
pub record HaveOneValue (order : Order) (labels : List (List ℕ)) (old new : List Mark) : Type 0 where
  pub before : Tree
  pub after : Tree
  pub is_before : old_tree order old ≡ Some before
  pub is_after : IsTreeOf new after
  pub same : (names : List ℕ → Option Value) → (here : Value) → value_of (λ name. names (renamed labels name)) here before ≡ value_of names here after

-- an operand says the same: both are expressions of one value, or the old one is no expression (`*+`, a string) and the
-- new one has the same symbols, but for the names of local labels
abbrev pub SaysTheSame : Order → (labels : List (List ℕ)) → (old new : List Sym) → Type 0
SaysTheSame order labels old new = HaveOneValue order labels (map mark old) (map mark new) ⊎ ((old_tree order (map mark old) ≡ None) × (map (renamed_symbol labels) old ≡ new))

-- as many operands, and each says the same
abbrev pub SayTheSame : Order → (labels : List (List ℕ)) → (old new : List (List Sym)) → Type 0
SayTheSame order labels [] [] = Unit {0}
SayTheSame order labels (o ∷ os) (n ∷ ns) = SaysTheSame order labels o n × SayTheSame order labels os ns
SayTheSame order labels _ _ = ⊥

-- the operands of an old line are read, the assembler reads the new line's text, and the operands say the same; local labels get
-- these names, or none
pub record KeepsOperands (order : Order) (labels : List (List ℕ)) (old new : List ℕ) : Type 0 where
  pub symbols : List Sym
  pub parts : Parts
  pub is_old : old_symbols order (are_renamed labels) (operand_text old) ≡ Some symbols
  pub is_new : line_of new ≡ Ok parts
  pub same : SayTheSame order labels (operands_of symbols) (operands_of (symbols_of parts.pieces))

-- where both operands are expressions, they have the same value or the same fault, whatever the names and `$` stand for
abbrev pub IsOfOneValue : Order → (old new : List Sym) → Type 0
IsOfOneValue order old new = (before after : Tree) → old_tree order (map mark old) ≡ Some before → IsTreeOf (map mark new) after
    → (names : List ℕ → Option Value) → (here : Value) → value_of names here before ≡ value_of names here after

-- each operand, with the one at its place
abbrev pub AreOfOneValue : Order → (old new : List (List Sym)) → Type 0
AreOfOneValue order [] ns = Unit {0}
AreOfOneValue order (o ∷ os) [] = Unit {0}
AreOfOneValue order (o ∷ os) (n ∷ ns) = IsOfOneValue order o n × AreOfOneValue order os ns

-- as far as the operands of an old line are read, and the assembler reads the new line's text, no operand that is an
-- expression in both changes its value
abbrev pub ChangesNoValue : Order → (old new : List ℕ) → Type 0
ChangesNoValue order old new = (symbols : List Sym) (parts : Parts) → old_symbols order false (operand_text old) ≡ Some symbols → line_of new ≡ Ok parts
    → AreOfOneValue order (operands_of symbols) (operands_of (symbols_of parts.pieces))

-- a line of the assembler has no operands
abbrev pub HasNoOperands : (line : List ℕ) → Type 0
HasNoOperands line = (parts : Parts) → line_of line ≡ Ok parts → symbols_of parts.pieces ≡ []
