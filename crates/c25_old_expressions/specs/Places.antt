-- The places of the operators among all of their kind, by which two are compared.
use Rattle.std.specs.Prelude.{ℕ}
use Rattle.c25_meaning_language.specs.declared.expression.UnaryOperator.{UnaryOperator}
use Rattle.c25_meaning_language.specs.declared.expression.UnaryOperator.TheVariants as unary
use Rattle.c25_meaning_language.specs.declared.expression.BinaryOperator.{BinaryOperator}
use Rattle.c25_meaning_language.specs.declared.expression.BinaryOperator.TheVariants as binary

-- the place of an operator before an operand
abbrev pub unary_place : UnaryOperator → ℕ
unary_place unary.Plus = 0
unary_place unary.Minus = 1
unary_place unary.Complement = 2

-- the place of an operator between two operands
abbrev pub binary_place : BinaryOperator → ℕ
binary_place binary.Multiply = 0
binary_place binary.Divide = 1
binary_place binary.Remainder = 2
binary_place binary.Add = 3
binary_place binary.Subtract = 4
binary_place binary.ShiftLeft = 5
binary_place binary.ShiftRight = 6
binary_place binary.Less = 7
binary_place binary.LessOrEqual = 8
binary_place binary.Greater = 9
binary_place binary.GreaterOrEqual = 10
binary_place binary.Equal = 11
binary_place binary.NotEqual = 12
binary_place binary.And = 13
binary_place binary.ExclusiveOr = 14
binary_place binary.Or = 15
