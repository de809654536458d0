-- The tree of tokens as a function, token by token with one stack (SPRU018, assembler description,
-- expressions; C's order is this project's own). That it gives the trees of `Tree.IsTreeOf` and no others is
-- a law of the crate that reads expressions.
use Rattle.std.specs.Prelude.{ℕ, Bool, true, false, nat_le, if◌then◌else◌, List, [], ◌∷◌, Option, Some, None, option_and_then, Result, Ok, Err}
use Rattle.c25_meaning_language.specs.declared.line.Sign.{Sign}
use Rattle.c25_meaning_language.specs.declared.line.Sign.TheVariants as sign
use Rattle.c25_meaning_language.specs.declared.expression.UnaryOperator.{UnaryOperator}
use Rattle.c25_meaning_language.specs.declared.expression.UnaryOperator.TheVariants as unary
use Rattle.c25_meaning_language.specs.declared.expression.BinaryOperator.{BinaryOperator}
use Rattle.c25_meaning_language.specs.declared.expression.BinaryOperator.TheVariants as binary
use Rattle.c25_meaning_language.specs.declared.expression.ExpressionFault.{ExpressionFault}
use Rattle.c25_meaning_language.specs.declared.expression.ExpressionFault.TheVariants.{BadExpression, TooDeep}
use Rattle.c25_meaning_language.specs.Tree.{Leaf, Tree, Single, Group, Unary, Binary, Mark, Operand, Signed, Stray, level_of, depth}

-- an item of a tree in postfix order: a leaf, parentheses round the last tree, an operator before the last
-- tree, an operator between the last two
pub data PostfixItem : Type 0 where
  Push : Leaf → PostfixItem
  Wrap : PostfixItem
  Apply : UnaryOperator → PostfixItem
  Combine : BinaryOperator → PostfixItem

-- what waits for an operand: an open parenthesis, an operator before it, or a left operand with its operator
pub data Frame : Type 0 where
  Open : Frame
  Pending : UnaryOperator → Frame
  After : Tree → BinaryOperator → Frame

-- the frames, the innermost first; the operand after them, if it has been read; and the items of all their
-- trees in postfix order, the last first
pub record ParserState : Type 0 where
  pub frames : List Frame
  pub current : Option Tree
  pub items : List PostfixItem

-- the state before the first token
abbrev pub start : ParserState
start = record { frames = []; current = None; items = [] }

-- a sign as an operator before an operand
abbrev pub unary_of : Sign → Option UnaryOperator
unary_of sign.Plus = Some unary.Plus
unary_of sign.Minus = Some unary.Minus
unary_of sign.Tilde = Some unary.Complement
unary_of _ = None

-- a sign as an operator between operands
abbrev pub binary_of : Sign → Option BinaryOperator
binary_of sign.Star = Some binary.Multiply
binary_of sign.Slash = Some binary.Divide
binary_of sign.Percent = Some binary.Remainder
binary_of sign.Plus = Some binary.Add
binary_of sign.Minus = Some binary.Subtract
binary_of sign.ShiftLeft = Some binary.ShiftLeft
binary_of sign.ShiftRight = Some binary.ShiftRight
binary_of sign.Less = Some binary.Less
binary_of sign.LessOrEqual = Some binary.LessOrEqual
binary_of sign.Greater = Some binary.Greater
binary_of sign.GreaterOrEqual = Some binary.GreaterOrEqual
binary_of sign.Equal = Some binary.Equal
binary_of sign.NotEqual = Some binary.NotEqual
binary_of sign.Ampersand = Some binary.And
binary_of sign.Caret = Some binary.ExclusiveOr
binary_of sign.Bar = Some binary.Or
binary_of _ = None

-- whether a sign opens a group
abbrev pub is_open : Sign → Bool
is_open sign.OpenParenthesis = true
is_open _ = false

-- whether a sign ends a group
abbrev pub is_close : Sign → Bool
is_close sign.CloseParenthesis = true
is_close _ = false

-- the state after a whole operand: the operators directly before it take it
abbrev pub settle : List Frame → Tree → List PostfixItem → ParserState
settle [] e is = record { frames = []; current = Some e; items = is }
settle (Open ∷ fs) e is = record { frames = Open ∷ fs; current = Some e; items = is }
settle (Pending op ∷ fs) e is = settle fs (Unary op e) (Apply op ∷ is)
settle (After l op ∷ fs) e is = record { frames = After l op ∷ fs; current = Some e; items = is }

-- the state once the operators of level `n` or tighter that wait for a right operand have taken it, the
-- innermost first
abbrev pub reduced : ℕ → List Frame → Tree → List PostfixItem → ParserState
reduced n [] e is = record { frames = []; current = Some e; items = is }
reduced n (Open ∷ fs) e is = record { frames = Open ∷ fs; current = Some e; items = is }
reduced n (Pending op ∷ fs) e is = record { frames = Pending op ∷ fs; current = Some e; items = is }
reduced n (After l op ∷ fs) e is =
    if nat_le (level_of op) n then reduced n fs (Binary op l e) (Combine op ∷ is)
    else record { frames = After l op ∷ fs; current = Some e; items = is }

-- the loosest level: that of `|`
abbrev pub loosest : ℕ
loosest = 8

-- the state after a sign where an operand has to come: an operator before it, or an open parenthesis; other
-- signs are not allowed
abbrev pub operand_begun : List Frame → List PostfixItem → Option UnaryOperator → Bool → Option ParserState
operand_begun fs is (Some op) b = Some (record { frames = Pending op ∷ fs; current = None; items = is })
operand_begun fs is None true = Some (record { frames = Open ∷ fs; current = None; items = is })
operand_begun fs is None false = None

-- the state in which the last operand is the left one of an operator, which waits for its right one
abbrev pub waiting_by : BinaryOperator → List Frame → Option Tree → List PostfixItem → ParserState
waiting_by op fs (Some e) is = record { frames = After e op ∷ fs; current = None; items = is }
waiting_by op fs None is = record { frames = fs; current = None; items = is }

-- `waiting_by` on the parts of a state
abbrev pub waiting : BinaryOperator → ParserState → ParserState
waiting op s = waiting_by op s.frames s.current s.items

-- the state after a closing parenthesis, if the innermost frame is an open one
abbrev pub closed_by : List Frame → Option Tree → List PostfixItem → Option ParserState
closed_by (Open ∷ fs) (Some e) is = Some (settle fs (Group e) (Wrap ∷ is))
closed_by _ _ is = None

-- `closed_by` on the parts of a state
abbrev pub closed : ParserState → Option ParserState
closed s = closed_by s.frames s.current s.items

-- the state after a sign that follows an operand: an operator, or a closing parenthesis; other signs are not
-- allowed
abbrev pub followed : List Frame → Tree → List PostfixItem → Option BinaryOperator → Bool → Option ParserState
followed fs e is (Some op) b = Some (waiting op (reduced (level_of op) fs e is))
followed fs e is None true = closed (reduced loosest fs e is)
followed fs e is None false = None

-- the state after one more token, if the token may stand there
abbrev pub step_by : List Frame → Option Tree → List PostfixItem → Mark → Option ParserState
step_by fs None is (Operand l) = Some (settle fs (Single l) (Push l ∷ is))
step_by fs None is (Signed s) = operand_begun fs is (unary_of s) (is_open s)
step_by fs None is Stray = None
step_by fs (Some e) is (Operand l) = None
step_by fs (Some e) is (Signed s) = followed fs e is (binary_of s) (is_close s)
step_by fs (Some e) is Stray = None

-- `step_by` on the parts of a state
abbrev pub step : ParserState → Mark → Option ParserState
step s m = step_by s.frames s.current s.items m

-- a tree, with its items in postfix order, the last first
pub record Found : Type 0 where
  pub tree : Tree
  pub items : List PostfixItem

-- the tree, if no frame is left
abbrev pub whole_by : List Frame → Option Tree → List PostfixItem → Option Found
whole_by [] (Some e) is = Some (record { tree = e; items = is })
whole_by _ _ is = None

-- `whole_by` on the parts of a state
abbrev pub whole : ParserState → Option Found
whole s = whole_by s.frames s.current s.items

-- the tree after the last token: all operators that wait take their operands
abbrev pub finished_by : List Frame → Option Tree → List PostfixItem → Option Found
finished_by fs None is = None
finished_by fs (Some e) is = whole (reduced loosest fs e is)

-- `finished_by` on the parts of a state
abbrev pub finished : ParserState → Option Found
finished s = finished_by s.frames s.current s.items

-- the tree after these tokens, from a state on
abbrev pub run : List Mark → ParserState → Option Found
run [] s = finished s
run (m ∷ ms) s = option_and_then (run ms) (step s m)

-- how deep parentheses and unary operators may nest
abbrev pub most_nested : ℕ
most_nested = 64

-- the tree, if there is one and it does not nest too deep
abbrev pub tree_within : Option Found → Result Tree ExpressionFault
tree_within None = Err BadExpression
tree_within (Some f) = if nat_le (depth f.tree) most_nested then Ok f.tree else Err TooDeep

-- the tree of tokens, or why they have none
abbrev pub tree_in : List Mark → Result Tree ExpressionFault
tree_in marks = tree_within (run marks start)
