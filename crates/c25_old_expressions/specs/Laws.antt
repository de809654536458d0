-- What the definitions of old expressions come to.
use Rattle.std.specs.Prelude.{◌≡◌, ℕ, ◌+◌, ◌*◌, List, map, Option, Some, Ok, pos}
use Rattle.c25_meaning_language.specs.Tree.{Tree, Single, Group, Unary, Binary, Mark, level, spelling}
use Rattle.c25_meaning_language.specs.Value.{value_of}
use Rattle.c25_meaning_language.specs.declared.value.Base.TheVariants.{Absolute}
use Rattle.c25_meaning_language.specs.declared.value.Value.{Value}
use Rattle.c25_old_expressions.specs.declared.order.Order.{Order}
use Rattle.c25_old_expressions.specs.Marks.{mark}
use Rattle.c25_old_expressions.specs.OldReading.{old_tree}
use Rattle.c25_old_expressions.specs.OldSymbols.{two_characters}

-- the symbols of a constant of two characters are an expression, whose value has the first character in its high byte
pub record HasHighAndLow (order : Order) (high low : ℕ) : Type 0 where
  pub tree : Tree
  pub is_tree : old_tree order (map mark (two_characters high low)) ≡ Some tree
  pub value : (names : List ℕ → Option Value) → (here : Value) → value_of names here tree ≡ Ok (record { base = Absolute; offset = pos (high * 256 + low) })

-- each operator between two operands acts after all that are written before it in its parentheses: its right operand is a
-- single one, a group or an operator before one, and so is the operand of an operator before one
abbrev pub IsAsWritten : Tree → Type 0
IsAsWritten (Single l) = Unit {0}
IsAsWritten (Group e) = IsAsWritten e
IsAsWritten (Unary op e) = (level e ≡ 0) × IsAsWritten e
IsAsWritten (Binary op l r) = (level r ≡ 0) × IsAsWritten l × IsAsWritten r

-- a tree has these tokens, from left to right, and its operators act as they are written
pub record IsLeftToRight (marks : List Mark) (e : Tree) : Type 0 where
  pub spelled : spelling e ≡ marks
  pub as_written : IsAsWritten e
