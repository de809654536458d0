use Rattle.c25_meaning_expansion.proofs.ExpansionBounded.{at_most_200_000_lines}
use Rattle.c25_meaning_expansion.proofs.ExpansionFirst.{first_giving}
use Rattle.c25_print_laws.proofs.expansion.expansion_gives_at_most_200_000_lines.Goals as goal

pub returns-clause-falls : goal.returns-clause-falls
returns-clause-falls c = λ files s old new row e. (first_giving files s old new row e).1

pub returns-clause-all : goal.returns-clause-all
returns-clause-all c = at_most_200_000_lines
