use Rattle.std.proofs.Common.{rules}
use Rattle.c25_texts.proofs.words.is_word.Goals as goal

pub returns : goal.returns
returns c = search rules
