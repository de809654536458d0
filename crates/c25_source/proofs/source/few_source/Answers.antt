use Rattle.c25_source.proofs.source.few_source.Goals as goal

pub buildable_parts-requires-clause-are : goal.buildable_parts-requires-clause-are
buildable_parts-requires-clause-are c = (c.args.asked.blank, c.requires.are)

pub sure_source-requires-clause-are : goal.sure_source-requires-clause-are
sure_source-requires-clause-are c = c.in-Ok.ensures.same c.args.asked.blank c.requires.are
