-- the operands so far, and those of the expressions that are left, are those of all
use Rattle.std.proofs.Common.{◌≡◌, ◌++◌, drop}
use Rattle.c25_absolute_operands.specs.Operands.{operands_from}
use Rattle.c25_line_warnings.specs.View.{line_of}
use Rattle.c25_statements.specs.View.{trees_of}
use Rattle.c25_absolute_operands.proofs.line.push_expressions.Given as goal

abbrev pub invariant-loop-index : goal.invariant-loop-index
invariant-loop-index l =
    l.operands.items ++ operands_from l.symbols l.numbered.number (line_of l.numbered.line.now) l.form l.index (trees_of (drop l.index l.exprs))
    ≡ l.fn.operands.items ++ operands_from l.symbols l.numbered.number (line_of l.numbered.line.now) l.form 0 (trees_of l.exprs)
