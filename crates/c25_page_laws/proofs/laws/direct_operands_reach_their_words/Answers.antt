use Rattle.c25_page_laws.proofs.Operands.{statements_reach, words_reach}
use Rattle.c25_page_laws.proofs.laws.direct_operands_reach_their_words.Goals as goal

pub returns-clause-statements : goal.returns-clause-statements
returns-clause-statements c = statements_reach

pub returns-clause-words : goal.returns-clause-words
returns-clause-words c = words_reach
