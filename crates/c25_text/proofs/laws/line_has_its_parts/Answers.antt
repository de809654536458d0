use Rattle.c25_text.proofs.Splits.{parts_are}
use Rattle.c25_text.proofs.laws.line_has_its_parts.Goals as goal

pub returns : goal.returns
returns c = parts_are
