use Rattle.c25_dis.proofs.OwnWords.{line_code, word_code}
use Rattle.c25_dis.proofs.laws.instructions_have_the_words_of_their_lines.Goals as goal

pub returns-clause-marked : goal.returns-clause-marked
returns-clause-marked c = line_code

pub returns-clause-unmarked : goal.returns-clause-unmarked
returns-clause-unmarked c = word_code
