use Rattle.c25_guide.proofs.Changes.{changes}
use Rattle.c25_guide.proofs.laws.rows_change_what_they_affect.Goals as goal

pub returns : goal.returns
returns c = changes
