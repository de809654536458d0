use Rattle.std.specs.Map.Iter.{deref_pair}
use Rattle.std.proofs.lemmas.Iterator.Consumers.{YieldsList-from_rest, count_from_yields_List}
use Rattle.std.specs.FinMap as finite
use Rattle.c25_moving.proofs.old_words.count_of.Goals as goal

pub returns : goal.returns
returns c = count_from_yields_List c.iter.result c.count.result c.count.ensures.ran (YieldsList-from_rest {shows = deref_pair} (finite.entries c.args.words.now) c.iter.ensures.entries)
