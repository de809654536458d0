-- the symbols so far
use Rattle.std.proofs.Common.{◌≡◌, map, take}
use Rattle.c25_expr.specs.Pieces.{pieces_of}
use Rattle.c25_old_expressions.specs.Marks.{sym_of, symbols_of}
use Rattle.c25_old_expressions.proofs.operands.symbols_of.Given as goal

abbrev pub invariant-loop-token : goal.invariant-loop-token
invariant-loop-token l = map sym_of l.symbols.items ≡ symbols_of (pieces_of (take l.token-index l.token-items))
