use Rattle.c25_count_laws.proofs.Acting.{begins, statements_act, words_act}
use Rattle.c25_count_laws.proofs.laws.counts_stand_at_instructions.Goals as goal

pub returns-clause-words : goal.returns-clause-words
returns-clause-words c = words_act

pub returns-clause-begins : goal.returns-clause-begins
returns-clause-begins c = begins

pub returns-clause-statements : goal.returns-clause-statements
returns-clause-statements c = statements_act
