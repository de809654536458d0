-- The tree of an expression of an old source. It is read token by token as in `Reading`; but where operators act as they are
-- written, each operator between two operands acts after all that are written before it in its parentheses, whatever their
-- levels. Parentheses and the operators before an operand are the same in both. `Laws.IsLeftToRight` says the same of the
-- whole tree, and that both agree is a law of this crate.
use Rattle.std.specs.Prelude.{ℕ, Bool, List, [], ◌∷◌, Option, Some, None, option_and_then, option_map}
use Rattle.c25_meaning_language.specs.declared.expression.BinaryOperator.{BinaryOperator}
use Rattle.c25_meaning_language.specs.Tree.{Tree, Mark, Operand, Signed, Stray, level_of}
use Rattle.c25_meaning_language.specs.Reading as reading
use Rattle.c25_meaning_language.specs.Reading.{Frame, ParserState, PostfixItem, Found, binary_of, is_close, loosest, reduced, waiting, finished, start}
use Rattle.c25_old_expressions.specs.declared.order.Order.{Order}
use Rattle.c25_old_expressions.specs.declared.order.Order.TheVariants.{AsWritten, ByLevel}

-- the loosest level of the operators that act before an operator that follows them
abbrev pub level_before : Order → BinaryOperator → ℕ
level_before AsWritten op = loosest
level_before ByLevel op = level_of op

-- the state after a sign that follows an operand
abbrev pub followed : Order → List Frame → Tree → List PostfixItem → Option BinaryOperator → Bool → Option ParserState
followed order fs e is (Some op) b = Some (waiting op (reduced (level_before order op) fs e is))
followed order fs e is None b = reading.followed fs e is None b

-- the state after one more token, if the token may stand there
abbrev pub step_by : Order → List Frame → Option Tree → List PostfixItem → Mark → Option ParserState
step_by order fs (Some e) is (Signed s) = followed order fs e is (binary_of s) (is_close s)
step_by order fs (Some e) is (Operand l) = None
step_by order fs (Some e) is Stray = None
step_by order fs None is m = reading.step_by fs None is m

-- `step_by` on the parts of a state
abbrev pub step : Order → ParserState → Mark → Option ParserState
step order s m = step_by order s.frames s.current s.items m

-- the tree after these tokens, from a state on
abbrev pub run : Order → List Mark → ParserState → Option Found
run order [] s = finished s
run order (m ∷ ms) s = option_and_then (run order ms) (step order s m)

-- the tree of tokens whose operators act in this order, if there is one
abbrev pub old_tree : Order → List Mark → Option Tree
old_tree order ms = option_map (λ (f : Found). f.tree) (run order ms start)
