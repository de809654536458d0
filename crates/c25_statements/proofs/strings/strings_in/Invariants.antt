use Rattle.std.proofs.Common.{◌≡◌, ◌++◌, Ok, drop}
use Rattle.c25_meaning_common.specs.Results.{◌>>=◌}
use Rattle.c25_meaning_assembly.specs.AssemblyLine.{strings_in}
use Rattle.c25_expr.specs.Pieces.{operands_view}
use Rattle.c25_statements.proofs.strings.strings_in.Given as goal

abbrev pub invariant-loop-operand : goal.invariant-loop-operand
invariant-loop-operand l = (strings_in (operands_view (drop l.operand-index l.operands)) >>= λ more. Ok (l.words.items ++ more)) ≡ strings_in (operands_view l.operands)
