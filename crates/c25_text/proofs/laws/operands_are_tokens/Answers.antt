use Rattle.c25_text.proofs.Shown.{operands_shown}
use Rattle.c25_text.proofs.laws.operands_are_tokens.Goals as goal

pub returns : goal.returns
returns c = operands_shown
