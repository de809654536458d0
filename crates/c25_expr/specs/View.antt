-- What the types that hold and read expressions stand for.
use Rattle.std.specs.Prelude.{Bool, true, false, List, [], ◌∷◌, map, reverse, Option, Some, None}
use Rattle.c25_meaning_language.specs.Tree as tree
use Rattle.c25_meaning_language.specs.Tree.{Tree, Mark, mark_of}
use Rattle.c25_meaning_language.specs.Reading as reading
use Rattle.c25_meaning_language.specs.Reading.{ParserState}
use Rattle.c25_text.specs.View.{piece_of}
use Rattle.c25_text.specs.declared.tokens.Token.{Token}
use Rattle.c25_expr.specs.Postfix.{item_of, built, last_tree, other_trees}
use Rattle.c25_expr.specs.Steps.{steps_of}
use Rattle.c25_expr.specs.declared.tree.Expr.{Expr}
use Rattle.c25_expr.specs.declared.builder.Frame.{Frame}
use Rattle.c25_expr.specs.declared.builder.Frame.TheVariants.{Open, Pending, After}
use Rattle.c25_expr.specs.declared.builder.Builder.{Builder}

-- the tree that an expression stands for
abbrev pub tree_of : Expr → Tree
tree_of e = last_tree (built (reverse (map item_of (steps_of e.steps))))

-- what each token is to an expression: an operand, a sign, or neither
abbrev pub marks_of : List Token → List Mark
marks_of ts = map (λ t. mark_of (piece_of t)) ts

-- the item that a token which is an operand by itself becomes
abbrev pub leaf_item : Mark → Option reading.PostfixItem
leaf_item (tree.Operand l) = Some (reading.Push l)
leaf_item _ = None

-- the frames of the definition: those of the code, with the left operands of their binary operators; the
-- innermost is first in all lists
abbrev pub woven : List Frame → List Tree → List reading.Frame
woven [] ts = []
woven (Open ∷ fs) ts = reading.Open ∷ woven fs ts
woven (Pending op ∷ fs) ts = reading.Pending op ∷ woven fs ts
woven (After op ∷ fs) ts = reading.After (last_tree ts) op ∷ woven fs (other_trees ts)

-- the items that a builder has so far, the last first
abbrev pub items_of : Builder → List reading.PostfixItem
items_of b = reverse (map item_of b.items.items)

-- the trees that a builder's items make, the last first
abbrev pub trees_of : Builder → List Tree
trees_of b = built (items_of b)

-- the state that a builder stands for where the last tree is an operand after the frames
abbrev pub behind : Builder → ParserState
behind b = record {
  frames = woven (reverse b.frames.items) (other_trees (trees_of b));
  current = Some (last_tree (trees_of b));
  items = items_of b;
}

-- the trees that are left operands of the frames: all, where an operand has to come, else all but the last
abbrev pub trees_before : Bool → List Tree → List Tree
trees_before true ts = ts
trees_before false ts = other_trees ts

-- the operand after the frames: none, where an operand has to come, else the last tree
abbrev pub operand_by : Bool → List Tree → Option Tree
operand_by true ts = None
operand_by false ts = Some (last_tree ts)

-- the state that a builder stands for
abbrev pub state_of : Builder → ParserState
state_of b = record {
  frames = woven (reverse b.frames.items) (trees_before b.expects (trees_of b));
  current = operand_by b.expects (trees_of b);
  items = items_of b;
}
