use Rattle.c25_expr.proofs.Complete.{tree_same}
use Rattle.c25_expr.proofs.laws.one_tree.Goals as goal

pub returns : goal.returns
returns c = tree_same
