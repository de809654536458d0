use Rattle.std.proofs.Common.{rules}
use Rattle.c25_substitution.proofs.texts.SubstitutionTexts.new.Goals as goal

pub returns : goal.returns
returns c = search rules
