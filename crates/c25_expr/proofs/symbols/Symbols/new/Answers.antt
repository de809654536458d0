use Rattle.std.proofs.Common.{rules}
use Rattle.c25_expr.proofs.symbols.Symbols.new.Goals as goal

pub returns : goal.returns
returns c = search rules
