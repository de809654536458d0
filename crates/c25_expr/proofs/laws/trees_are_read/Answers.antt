use Rattle.c25_expr.proofs.Trees.{tree_read, tree_none, tree_deep}
use Rattle.c25_expr.proofs.laws.trees_are_read.Goals as goal

pub returns : goal.returns
returns c = record { read = tree_read; none = tree_none; deep = tree_deep }
