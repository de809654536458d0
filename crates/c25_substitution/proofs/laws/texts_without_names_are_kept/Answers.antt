use Rattle.c25_substitution.proofs.PlainTexts.{line_kept}
use Rattle.c25_substitution.proofs.laws.texts_without_names_are_kept.Goals as goal

pub returns : goal.returns
returns c = line_kept
