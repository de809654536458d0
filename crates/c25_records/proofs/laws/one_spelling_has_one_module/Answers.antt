use Rattle.c25_records.proofs.Again.{one_spelling}
use Rattle.c25_records.proofs.laws.one_spelling_has_one_module.Goals as goal

pub returns : goal.returns
returns c = one_spelling c.args.first.now c.args.second.now c.parts-first.ensures.spelled c.parts-second.ensures.spelled
