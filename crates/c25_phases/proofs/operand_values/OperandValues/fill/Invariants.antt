use Rattle.std.proofs.Common.{◌≡◌, drop}
use Rattle.c25_meaning_common.specs.Results.{fold_ok}
use Rattle.c25_meaning_assembly.specs.Addresses.{taken, operand_values}
use Rattle.c25_statements.specs.View.{trees_of}
use Rattle.c25_phases.proofs.operand_values.OperandValues.fill.Given as goal

abbrev pub invariant-loop-expr : goal.invariant-loop-expr
invariant-loop-expr l = fold_ok (taken l.target l.symbols) l.self (trees_of (drop l.expr-index l.exprs)) ≡ operand_values l.target l.symbols (trees_of l.exprs)
