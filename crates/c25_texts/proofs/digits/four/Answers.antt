use Rattle.std.proofs.Common.{rules}
use Rattle.c25_texts.proofs.digits.four.Goals as goal

pub returns : goal.returns
returns c = search rules
