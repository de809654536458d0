use Rattle.std.proofs.Common.{◌≡◌, ◌++◌, Ok, drop}
use Rattle.std.specs.String.{string_bytes}
use Rattle.c25_meaning_common.specs.Results.{◌>>=◌}
use Rattle.c25_meaning_assembly.specs.AssemblyLine.{joined, joined_behind}
use Rattle.c25_expr.specs.Pieces.{pieces_of}
use Rattle.c25_text.specs.View.{piece_of}
use Rattle.c25_statements.proofs.sections.joined.Given as goal

abbrev pub invariant-loop-token : goal.invariant-loop-token
invariant-loop-token l = (joined_behind (piece_of l.last) (pieces_of (drop l.token-index l.rest)) >>= λ more. Ok (string_bytes l.name ++ more)) ≡ joined (pieces_of l.operand)
