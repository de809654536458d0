use Rattle.c25_linking_laws.proofs.WordsFit.{program_fits, word_fits}
use Rattle.c25_linking_laws.proofs.linking.program_words_have_16_bits.Goals as goal

pub returns-clause-each : goal.returns-clause-each
returns-clause-each c = word_fits

pub returns-clause-pages : goal.returns-clause-pages
returns-clause-pages c = program_fits
