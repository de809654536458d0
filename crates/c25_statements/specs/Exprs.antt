-- The list that the expressions of a line's operands are.
use Rattle.std.specs.Prelude.{List, [], ◌∷◌}
use Rattle.c25_expr.specs.declared.tree.Expr.{Expr}
use Rattle.c25_statements.specs.declared.statement.Exprs.{Exprs}
use Rattle.c25_statements.specs.declared.statement.Exprs.TheVariants.{One, Several}

-- the expressions in order
abbrev pub exprs_in : Exprs → List Expr
exprs_in (One expr) = expr ∷ []
exprs_in (Several exprs) = exprs.items
