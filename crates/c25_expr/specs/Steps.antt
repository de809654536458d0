-- What the items of an expression, kept as one or as several, stand for.
use Rattle.std.specs.Prelude.{List, [], ◌∷◌}
use Rattle.c25_expr.specs.declared.tree.PostfixItem.{PostfixItem}
use Rattle.c25_expr.specs.declared.tree.Steps.{Steps}
use Rattle.c25_expr.specs.declared.tree.Steps.TheVariants.{One, Several}

-- the items of an expression, in order
abbrev pub steps_of : Steps → List PostfixItem
steps_of (One item) = item ∷ []
steps_of (Several items) = items.items
