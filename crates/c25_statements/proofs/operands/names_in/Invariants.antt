use Rattle.std.proofs.Common.{◌≡◌, ◌++◌, Ok, drop}
use Rattle.c25_meaning_common.specs.Results.{◌>>=◌}
use Rattle.c25_meaning_language.specs.DirectiveOperands.{names_in}
use Rattle.c25_expr.specs.Pieces.{operands_view}
use Rattle.c25_statements.specs.View.{texts_of}
use Rattle.c25_statements.proofs.operands.names_in.Given as goal

abbrev pub invariant-loop-operand : goal.invariant-loop-operand
invariant-loop-operand l = (names_in (operands_view (drop l.operand-index l.operands)) >>= λ more. Ok (texts_of l.names.items ++ more)) ≡ names_in (operands_view l.operands)
