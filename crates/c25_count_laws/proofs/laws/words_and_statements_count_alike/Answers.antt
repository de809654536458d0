use Rattle.c25_count_laws.proofs.Alike.{counts_alike}
use Rattle.c25_count_laws.proofs.laws.words_and_statements_count_alike.Goals as goal

pub returns : goal.returns
returns c = counts_alike
