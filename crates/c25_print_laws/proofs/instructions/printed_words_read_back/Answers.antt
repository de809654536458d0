use Rattle.c25_print_laws.proofs.DataWords.{one_word, two_words}
use Rattle.c25_print_laws.proofs.instructions.printed_words_read_back.Goals as goal

pub returns-clause-one : goal.returns-clause-one
returns-clause-one c = one_word

pub returns-clause-two : goal.returns-clause-two
returns-clause-two c = two_words
