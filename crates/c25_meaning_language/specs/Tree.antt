-- The tree of an expression (SPRU018, assembler description, expressions, has the operators; the levels are
-- this project's own: C's order).
use Rattle.std.specs.Prelude.{◌≡◌, ℕ, ◌+◌, ◌^◌, ◌<◌, ◌≤◌, min, max, List, [], ◌∷◌, ◌++◌, slice_index}
use Rattle.c25_meaning_language.specs.Constant.{constant_value}
use Rattle.c25_meaning_language.specs.Line.{Piece}
use Rattle.c25_meaning_language.specs.declared.line.TokenKind.{TokenKind}
use Rattle.c25_meaning_language.specs.declared.line.TokenKind.TheVariants as kind
use Rattle.c25_meaning_language.specs.declared.line.Sign.{Sign}
use Rattle.c25_meaning_language.specs.declared.line.Sign.TheVariants as sign
use Rattle.c25_meaning_language.specs.declared.expression.UnaryOperator.{UnaryOperator}
use Rattle.c25_meaning_language.specs.declared.expression.UnaryOperator.TheVariants as unary
use Rattle.c25_meaning_language.specs.declared.expression.BinaryOperator.{BinaryOperator}
use Rattle.c25_meaning_language.specs.declared.expression.BinaryOperator.TheVariants as binary

-- an operand without operators: a constant, a name, or `$`; a constant above 2,147,483,647 is kept as
-- 2,147,483,648, which has no value
pub data Leaf : Type 0 where
  Constant : ℕ → Leaf
  Name : List ℕ → Leaf
  Here : Leaf

-- an expression: a leaf, an expression in parentheses, an operator before an expression, an operator between
-- two
pub data Tree : Type 0 where
  Single : Leaf → Tree
  Group : Tree → Tree
  Unary : UnaryOperator → Tree → Tree
  Binary : BinaryOperator → Tree → Tree → Tree

-- what a token is to an expression: an operand, a sign, or nothing that belongs there
pub data Mark : Type 0 where
  Operand : Leaf → Mark
  Signed : Sign → Mark
  Stray : Mark

-- what a token of this kind and text is to an expression
abbrev pub mark_by : TokenKind → List ℕ → Mark
mark_by kind.Name text = Operand (Name text)
mark_by kind.Constant text = Operand (Constant (min (constant_value text) (2 ^ 31)))
mark_by kind.Character text = Operand (Constant (slice_index text 1))
mark_by kind.Quoted text = Stray
mark_by kind.DottedName text = Stray
mark_by (kind.Sign sign.Dollar) text = Operand Here
mark_by (kind.Sign s) text = Signed s

-- what a token is to an expression
abbrev pub mark_of : Piece → Mark
mark_of p = mark_by p.kind p.text

-- the sign of an operator before an operand
abbrev pub unary_sign : UnaryOperator → Sign
unary_sign unary.Plus = sign.Plus
unary_sign unary.Minus = sign.Minus
unary_sign unary.Complement = sign.Tilde

-- the sign of an operator between operands; the tokens `=` and `==` are one sign
abbrev pub binary_sign : BinaryOperator → Sign
binary_sign binary.Multiply = sign.Star
binary_sign binary.Divide = sign.Slash
binary_sign binary.Remainder = sign.Percent
binary_sign binary.Add = sign.Plus
binary_sign binary.Subtract = sign.Minus
binary_sign binary.ShiftLeft = sign.ShiftLeft
binary_sign binary.ShiftRight = sign.ShiftRight
binary_sign binary.Less = sign.Less
binary_sign binary.LessOrEqual = sign.LessOrEqual
binary_sign binary.Greater = sign.Greater
binary_sign binary.GreaterOrEqual = sign.GreaterOrEqual
binary_sign binary.Equal = sign.Equal
binary_sign binary.NotEqual = sign.NotEqual
binary_sign binary.And = sign.Ampersand
binary_sign binary.ExclusiveOr = sign.Caret
binary_sign binary.Or = sign.Bar

-- the levels of the operators, the tightest first
abbrev pub level_of : BinaryOperator → ℕ
level_of binary.Multiply = 1
level_of binary.Divide = 1
level_of binary.Remainder = 1
level_of binary.Add = 2
level_of binary.Subtract = 2
level_of binary.ShiftLeft = 3
level_of binary.ShiftRight = 3
level_of binary.Less = 4
level_of binary.LessOrEqual = 4
level_of binary.Greater = 4
level_of binary.GreaterOrEqual = 4
level_of binary.Equal = 5
level_of binary.NotEqual = 5
level_of binary.And = 6
level_of binary.ExclusiveOr = 7
level_of binary.Or = 8

-- the level of a tree's outermost operator; 0 where it is not one between two operands
abbrev pub level : Tree → ℕ
level (Single l) = 0
level (Group e) = 0
level (Unary op e) = 0
level (Binary op l r) = level_of op

-- the tokens of a tree, from left to right
abbrev pub spelling : Tree → List Mark
spelling (Single l) = Operand l ∷ []
spelling (Group e) = Signed sign.OpenParenthesis ∷ (spelling e ++ Signed sign.CloseParenthesis ∷ [])
spelling (Unary op e) = Signed (unary_sign op) ∷ spelling e
spelling (Binary op l r) = spelling l ++ Signed (binary_sign op) ∷ spelling r

-- a tree is grouped as the levels say: the operand of an operator before it has level 0; the left operand of
-- an operator between two has its level or a tighter one, the right operand a tighter one
abbrev pub IsGrouped : Tree → Type 0
IsGrouped (Single l) = Unit {0}
IsGrouped (Group e) = IsGrouped e
IsGrouped (Unary op e) = (level e ≡ 0) × IsGrouped e
IsGrouped (Binary op l r) = (level l ≤ level_of op) × (level r < level_of op) × IsGrouped l × IsGrouped r

-- how deep parentheses and unary operators nest
abbrev pub depth : Tree → ℕ
depth (Single l) = 0
depth (Group e) = depth e + 1
depth (Unary op e) = depth e + 1
depth (Binary op l r) = max (depth l) (depth r)

-- these tokens are an expression, and this is its tree
pub record IsTreeOf (marks : List Mark) (e : Tree) : Type 0 where
  pub spelled : spelling e ≡ marks
  pub grouped : IsGrouped e
