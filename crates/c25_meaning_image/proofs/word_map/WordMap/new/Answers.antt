use Rattle.c25_meaning_image.proofs.WordMaps.{in_range-empty}
use Rattle.c25_meaning_image.proofs.word_map.WordMap.new.Goals as goal

pub invariant_of-result : goal.invariant_of-result
invariant_of-result c = in_range-empty c.new.result c.new.ensures.empty
