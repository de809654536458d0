use Rattle.c25_print_laws.proofs.Covered.{words_source}
use Rattle.c25_print_laws.proofs.disassembly.words_texts_are_sources_of_their_words.Goals as goal

pub returns : goal.returns
returns c = words_source
