use Rattle.c25_buildable.proofs.Nameless.{all_built, all_same}
use Rattle.c25_buildable.proofs.bare.bare_parts.Goals as goal

pub returns-clause-same : goal.returns-clause-same
returns-clause-same c = λ blank are. all_same c.args.words.now c.args.parts.now c.each_bare.result c.each_bare.ensures blank are

pub returns-clause-built : goal.returns-clause-built
returns-clause-built c = all_built c.args.words.now c.args.parts.now c.each_bare.result c.each_bare.ensures c.iter-all.ensures.in_range c.requires.are.0 c.requires.are.1 c.requires.few
