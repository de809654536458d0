use Rattle.std.proofs.Common.{◌≡◌, drop}
use Rattle.c25_meaning_common.specs.Results.{fold_ok}
use Rattle.c25_meaning_assembly.specs.StatementLine.{with_operand, no_trees}
use Rattle.c25_expr.specs.Pieces.{operands_view}
use Rattle.c25_statements.specs.View.{so_far}
use Rattle.c25_statements.proofs.trees.exprs_of.Given as goal

abbrev pub invariant-loop-operand : goal.invariant-loop-operand
invariant-loop-operand l = fold_ok with_operand (so_far l.trees) (operands_view (drop l.operand-index l.operands)) ≡ fold_ok with_operand no_trees (operands_view l.operands)
