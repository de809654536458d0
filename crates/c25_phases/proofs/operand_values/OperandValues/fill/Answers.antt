use Rattle.std.proofs.Common.{sym, ap, ◌∙◌, length}
use Rattle.std.proofs.lemmas.List.{drop_all, length-map}
use Rattle.c25_meaning_assembly.specs.Addresses.{taken}
use Rattle.c25_meaning_common.specs.Results.{fold_ok}
use Rattle.c25_expr.specs.View.{tree_of}
use Rattle.c25_statements.specs.View.{trees_of}
use Rattle.c25_phases.proofs.OperandsValued.{fits_sheet, within_sheet}
use Rattle.c25_phases.proofs.operand_values.OperandValues.fill.Goals as goal

pub returns-clause-fits : goal.returns-clause-fits
returns-clause-fits c =
    let table = c.args.symbols.now in
    let exprs = c.args.exprs.now in
    fits_sheet c.args.target table (trees_of exprs) c.loop-expr.self
    (sym c.loop-expr.invariant ∙ ap (λ es. fold_ok (taken c.args.target table) c.loop-expr.self (trees_of es)) (drop_all c.loop-expr.expr-index exprs c.loop-expr-test.false))

pub returns-clause-within : goal.returns-clause-within
returns-clause-within c =
    let table = c.args.symbols.now in
    let exprs = c.args.exprs.now in
    within_sheet c.args.target table (trees_of exprs) c.loop-expr.self (length exprs) (sym (length-map exprs tree_of))
    (sym c.loop-expr.invariant ∙ ap (λ es. fold_ok (taken c.args.target table) c.loop-expr.self (trees_of es)) (drop_all c.loop-expr.expr-index exprs c.loop-expr-test.false))
