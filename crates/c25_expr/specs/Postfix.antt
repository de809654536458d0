-- Expressions in postfix order: what their items stand for, the trees that the items build, and how many
-- operands wait while the items are valued.
use Rattle.std.specs.Prelude.{ℕ, ◌+◌, ◌-◌, Bool, ◌&&◌, ◌||◌, ◌==◌, nat_lt, nat_le, List, [], ◌∷◌}
use Rattle.std.specs.String.{string_bytes}
use Rattle.c25_meaning_language.specs.Tree as tree
use Rattle.c25_meaning_language.specs.Tree.{Tree}
use Rattle.c25_meaning_language.specs.Reading as reading
use Rattle.c25_meaning_language.specs.Reading.{Push, Wrap, Apply, Combine}
use Rattle.c25_expr.specs.declared.tree.PostfixItem.{PostfixItem}
use Rattle.c25_expr.specs.declared.tree.PostfixItem.TheVariants.{Constant, Name, Here, Group, Unary, Binary}

-- the item of the definition that an item of the code stands for
abbrev pub item_of : PostfixItem → reading.PostfixItem
item_of (Constant n) = Push (tree.Constant n)
item_of (Name s) = Push (tree.Name (string_bytes s))
item_of Here = Push tree.Here
item_of Group = Wrap
item_of (Unary op) = Apply op
item_of (Binary op) = Combine op

-- the last tree that was built, which is the first of the list; `$` where there is none
abbrev pub last_tree : List Tree → Tree
last_tree [] = tree.Single tree.Here
last_tree (t ∷ ts) = t

-- the trees that were built before the last
abbrev pub other_trees : List Tree → List Tree
other_trees [] = []
other_trees (t ∷ ts) = ts

-- the trees after one more item, the last first
abbrev pub built_one : reading.PostfixItem → List Tree → List Tree
built_one (Push l) ts = tree.Single l ∷ ts
built_one Wrap ts = tree.Group (last_tree ts) ∷ other_trees ts
built_one (Apply op) ts = tree.Unary op (last_tree ts) ∷ other_trees ts
built_one (Combine op) ts = tree.Binary op (last_tree (other_trees ts)) (last_tree ts) ∷ other_trees (other_trees ts)

-- the trees that items build; the last is first in both lists
abbrev pub built : List reading.PostfixItem → List Tree
built [] = []
built (i ∷ is) = built_one i (built is)

-- how many operands may wait while an expression is valued: 8 levels of operators in each of 64 nested groups
-- and outside them, and one more
abbrev pub most_waiting : ℕ
most_waiting = 521

-- whether an item finds its operands, and room for its result, where this many operands wait
abbrev pub fits : reading.PostfixItem → ℕ → Bool
fits (Push l) n = nat_lt n most_waiting
fits Wrap n = nat_lt 0 n
fits (Apply op) n = nat_lt 0 n && nat_le n most_waiting
fits (Combine op) n = nat_lt 1 n && nat_le n most_waiting

-- how many operands wait after an item, where this many waited before it
abbrev pub height : reading.PostfixItem → ℕ → ℕ
height (Push l) n = n + 1
height Wrap n = n
height (Apply op) n = n
height (Combine op) n = n - 1

-- whether items, in order, find their operands and room where this many operands wait, and leave one operand
abbrev pub runs : List reading.PostfixItem → ℕ → Bool
runs [] n = n == 1
runs (i ∷ is) n = fits i n && runs is (height i n)

-- how many operands wait once the result of an item is put, which is the room that it needs; parentheses put
-- none and need none
abbrev pub with_result : reading.PostfixItem → ℕ → ℕ
with_result (Push l) n = n + 1
with_result Wrap n = 0
with_result (Apply op) n = n
with_result (Combine op) n = n - 1

-- whether there is room for the operands that wait while `count` items are valued: for as many as ever may
-- wait, or for one an item
abbrev pub is_room : ℕ → ℕ → Bool
is_room room count = nat_le most_waiting room || nat_le count room
