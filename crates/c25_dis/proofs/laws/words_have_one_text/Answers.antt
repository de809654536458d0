use Rattle.c25_dis.proofs.OneText.{one_words_text}
use Rattle.c25_dis.proofs.laws.words_have_one_text.Goals as goal

pub returns : goal.returns
returns c = one_words_text
