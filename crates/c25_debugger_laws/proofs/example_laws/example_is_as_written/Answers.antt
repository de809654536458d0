use Rattle.std.proofs.Common.{refl}
use Rattle.c25_debugger_laws.proofs.example_laws.example_is_as_written.Goals as goal

pub returns-clause-by_entry : goal.returns-clause-by_entry
returns-clause-by_entry c = refl

pub returns-clause-by_symbol : goal.returns-clause-by_symbol
returns-clause-by_symbol c = refl

pub returns-clause-by_statements : goal.returns-clause-by_statements
returns-clause-by_statements c = refl

pub returns-clause-by_marks : goal.returns-clause-by_marks
returns-clause-by_marks c = refl

pub returns-clause-first_word : goal.returns-clause-first_word
returns-clause-first_word c = refl

pub returns-clause-second_word : goal.returns-clause-second_word
returns-clause-second_word c = refl

pub returns-clause-plain : goal.returns-clause-plain
returns-clause-plain c = refl

pub returns-clause-relocated : goal.returns-clause-relocated
returns-clause-relocated c = refl

pub returns-clause-address : goal.returns-clause-address
returns-clause-address c = refl

pub returns-clause-there : goal.returns-clause-there
returns-clause-there c = refl

pub returns-clause-nowhere : goal.returns-clause-nowhere
returns-clause-nowhere c = refl
