use Rattle.c25_guide.proofs.Affects.{field_stays}
use Rattle.c25_guide.proofs.laws.rows_affect_what_is_printed.Goals as goal

pub returns : goal.returns
returns c = field_stays
