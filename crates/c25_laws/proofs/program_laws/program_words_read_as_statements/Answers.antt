use Rattle.c25_laws.proofs.ProgramWords.{stored_words_are, words_are}
use Rattle.c25_laws.proofs.program_laws.program_words_read_as_statements.Goals as goal

pub returns-clause-stored : goal.returns-clause-stored
returns-clause-stored c = stored_words_are

pub returns-clause-program : goal.returns-clause-program
returns-clause-program c = words_are
