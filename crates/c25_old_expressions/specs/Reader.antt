-- How an expression is read without its tree: what waits for an operand, and the items in postfix order without
-- parentheses.
use Rattle.std.specs.Prelude.{ℕ, Bool, true, false, nat_le, if◌then◌else◌, List, [], ◌∷◌, map, reverse, Option, Some, None, option_and_then}
use Rattle.c25_meaning_language.specs.declared.expression.BinaryOperator.{BinaryOperator}
use Rattle.c25_meaning_language.specs.declared.expression.UnaryOperator.{UnaryOperator}
use Rattle.c25_meaning_language.specs.declared.line.Sign.{Sign}
use Rattle.c25_meaning_language.specs.Tree as tree
use Rattle.c25_meaning_language.specs.Tree.{Leaf, Mark, Operand, Signed, Stray, level_of}
use Rattle.c25_meaning_language.specs.Reading.{PostfixItem, Push, Apply, Combine, unary_of, binary_of, is_open, is_close, loosest}
use Rattle.c25_old_expressions.specs.declared.order.Order.{Order}
use Rattle.c25_old_expressions.specs.declared.item.Item.{Item}
use Rattle.c25_old_expressions.specs.declared.item.Item.TheVariants as item
use Rattle.c25_old_expressions.specs.declared.reader.Frame.{Frame}
use Rattle.c25_old_expressions.specs.declared.reader.Frame.TheVariants.{Open, Pending, After}
use Rattle.c25_old_expressions.specs.declared.reader.Reader.{Reader}
use Rattle.c25_old_expressions.specs.OldReading.{level_before}

-- the item of the definition that an item of the code stands for
abbrev pub item_of : Item → PostfixItem
item_of (item.Constant n) = Push (tree.Constant n)
item_of (item.Name s) = Push (tree.Name s.now)
item_of item.Here = Push tree.Here
item_of (item.Unary op) = Apply op
item_of (item.Binary op) = Combine op

-- what waits for an operand, the innermost first; whether an operand has to come; and the items, the last first
pub record State : Type 0 where
  pub frames : List Frame
  pub expects : Bool
  pub items : List PostfixItem

-- the state before the first token
abbrev pub start : State
start = record { frames = []; expects = true; items = [] }

-- the state after a whole operand: the operators directly before it take it
abbrev pub settled : List Frame → List PostfixItem → State
settled [] is = record { frames = []; expects = false; items = is }
settled (Open ∷ fs) is = record { frames = Open ∷ fs; expects = false; items = is }
settled (Pending op ∷ fs) is = settled fs (Apply op ∷ is)
settled (After op ∷ fs) is = record { frames = After op ∷ fs; expects = false; items = is }

-- the state once the operators of this level or a tighter one that wait for a right operand have taken it
abbrev pub reduced : ℕ → List Frame → List PostfixItem → State
reduced n [] is = record { frames = []; expects = false; items = is }
reduced n (Open ∷ fs) is = record { frames = Open ∷ fs; expects = false; items = is }
reduced n (Pending op ∷ fs) is = record { frames = Pending op ∷ fs; expects = false; items = is }
reduced n (After op ∷ fs) is =
    if nat_le (level_of op) n then reduced n fs (Combine op ∷ is)
    else record { frames = After op ∷ fs; expects = false; items = is }

-- the state in which the last operand is the left one of an operator
abbrev pub waiting_by : BinaryOperator → List Frame → Bool → List PostfixItem → State
waiting_by op fs true is = record { frames = fs; expects = true; items = is }
waiting_by op fs false is = record { frames = After op ∷ fs; expects = true; items = is }

-- `waiting_by` on the parts of a state
abbrev pub waiting : BinaryOperator → State → State
waiting op s = waiting_by op s.frames s.expects s.items

-- the state after a closing parenthesis, if the innermost frame is an open one
abbrev pub closed_by : List Frame → Bool → List PostfixItem → Option State
closed_by (Open ∷ fs) false is = Some (settled fs is)
closed_by _ _ is = None

-- `closed_by` on the parts of a state
abbrev pub closed : State → Option State
closed s = closed_by s.frames s.expects s.items

-- the state after a sign where an operand has to come
abbrev pub begun : List Frame → List PostfixItem → Option UnaryOperator → Bool → Option State
begun fs is (Some op) b = Some (record { frames = Pending op ∷ fs; expects = true; items = is })
begun fs is None true = Some (record { frames = Open ∷ fs; expects = true; items = is })
begun fs is None false = None

-- the state after a sign that follows an operand
abbrev pub followed : Order → List Frame → List PostfixItem → Option BinaryOperator → Bool → Option State
followed order fs is (Some op) b = Some (waiting op (reduced (level_before order op) fs is))
followed order fs is None true = closed (reduced loosest fs is)
followed order fs is None false = None

-- the state after a sign
abbrev pub signed : Order → List Frame → Bool → List PostfixItem → Sign → Option State
signed order fs true is s = begun fs is (unary_of s) (is_open s)
signed order fs false is s = followed order fs is (binary_of s) (is_close s)

-- the state after an operand of one item
abbrev pub placed : List Frame → Bool → List PostfixItem → PostfixItem → Option State
placed fs true is i = Some (settled fs (i ∷ is))
placed fs false is i = None

-- the state after one more token, if the token may stand there
abbrev pub step_by : Order → List Frame → Bool → List PostfixItem → Mark → Option State
step_by order fs b is (Operand l) = placed fs b is (Push l)
step_by order fs b is (Signed s) = signed order fs b is s
step_by order fs b is Stray = None

-- `step_by` on the parts of a state
abbrev pub step : Order → State → Mark → Option State
step order s m = step_by order s.frames s.expects s.items m

-- the items, if nothing waits
abbrev pub whole_by : List Frame → Bool → List PostfixItem → Option (List PostfixItem)
whole_by [] false is = Some is
whole_by _ _ is = None

-- `whole_by` on the parts of a state
abbrev pub whole : State → Option (List PostfixItem)
whole s = whole_by s.frames s.expects s.items

-- the items after the last token
abbrev pub finished_by : List Frame → Bool → List PostfixItem → Option (List PostfixItem)
finished_by fs true is = None
finished_by fs false is = whole (reduced loosest fs is)

-- `finished_by` on the parts of a state
abbrev pub finished : State → Option (List PostfixItem)
finished s = finished_by s.frames s.expects s.items

-- the items of these tokens, from a state on
abbrev pub run : Order → List Mark → State → Option (List PostfixItem)
run order [] s = finished s
run order (m ∷ ms) s = option_and_then (run order ms) (step order s m)

-- the items that a reader has so far, the last first
abbrev pub items_of : Reader → List PostfixItem
items_of r = reverse (map item_of r.items.items)

-- the state that a reader stands for
abbrev pub state_of : Reader → State
state_of r = record { frames = reverse r.frames.items; expects = r.expects; items = items_of r }
