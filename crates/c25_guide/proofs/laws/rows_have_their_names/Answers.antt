use Rattle.c25_guide.proofs.Names.{names}
use Rattle.c25_guide.proofs.laws.rows_have_their_names.Goals as goal

pub returns : goal.returns
returns c = names
