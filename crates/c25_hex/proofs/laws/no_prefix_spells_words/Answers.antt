use Rattle.c25_hex.proofs.ReadBack.{cut_spells_none, without_last}
use Rattle.c25_hex.proofs.laws.no_prefix_spells_words.Goals as goal

pub returns-clause-cut : goal.returns-clause-cut
returns-clause-cut c = cut_spells_none

pub returns-clause-without_last : goal.returns-clause-without_last
returns-clause-without_last c = without_last
