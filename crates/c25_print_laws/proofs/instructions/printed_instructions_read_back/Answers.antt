use Rattle.c25_print_laws.proofs.DataWords.{instruction_words}
use Rattle.c25_print_laws.proofs.Families.{read_back}
use Rattle.c25_print_laws.proofs.instructions.printed_instructions_read_back.Goals as goal

pub returns-clause-line : goal.returns-clause-line
returns-clause-line c = λ i h. (read_back i h).says

pub returns-clause-words : goal.returns-clause-words
returns-clause-words c = instruction_words
