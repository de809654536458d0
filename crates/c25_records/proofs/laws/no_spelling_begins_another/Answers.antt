use Rattle.c25_records.proofs.Again.{no_proper_prefix}
use Rattle.c25_records.proofs.laws.no_spelling_begins_another.Goals as goal

pub returns : goal.returns
returns c = no_proper_prefix
