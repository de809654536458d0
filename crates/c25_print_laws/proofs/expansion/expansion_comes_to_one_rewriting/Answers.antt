use Rattle.c25_meaning_expansion.proofs.ExpansionFirst.{comes_to_first, first_reached, first_is_last}
use Rattle.c25_print_laws.proofs.expansion.expansion_comes_to_one_rewriting.Goals as goal

pub returns-clause-ends : goal.returns-clause-ends
returns-clause-ends c = λ files s at. (first_reached files s at, first_is_last files s at)

pub returns-clause-one : goal.returns-clause-one
returns-clause-one c = comes_to_first
