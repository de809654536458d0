use Rattle.c25_meaning_image.proofs.WordMaps.{collected_view, in_range-collected}
use Rattle.c25_meaning_image.proofs.word_map.WordMap.from_words.Goals as goal

pub invariant_of-result : goal.invariant_of-result
invariant_of-result c = in_range-collected c.in_ok-words.words c.args.words.items c.in_ok-words.ensures c.requires

pub returns : goal.returns
returns c = collected_view c.in_ok-words.words c.args.words.items c.in_ok-words.ensures
