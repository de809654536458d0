use Rattle.std.proofs.Common.{rules}
use Rattle.c25_text.proofs.line.Line.tokens.Goals as goal

pub returns : goal.returns
returns c = search rules
