use Rattle.c25_meaning_instructions.proofs.RelocatedFields.{low_filled, page_filled, word_filled}
use Rattle.c25_meaning_instructions.proofs.laws.filled_words_read_back.Goals as goal

pub returns-clause-low : goal.returns-clause-low
returns-clause-low c = low_filled

pub returns-clause-page : goal.returns-clause-page
returns-clause-page c = page_filled

pub returns-clause-word : goal.returns-clause-word
returns-clause-word c = word_filled
