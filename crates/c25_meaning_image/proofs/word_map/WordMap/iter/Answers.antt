use Rattle.std.proofs.Common.{rules}
use Rattle.c25_meaning_image.proofs.WordMaps.{listed_view}
use Rattle.c25_meaning_image.proofs.word_map.WordMap.iter.Goals as goal

pub returns-clause-entries : goal.returns-clause-entries
returns-clause-entries c = search (rules, listed_view)
