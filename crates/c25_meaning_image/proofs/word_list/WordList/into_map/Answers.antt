use Rattle.std.proofs.Common.{rules}
use Rattle.c25_meaning_image.proofs.word_list.WordList.into_map.Goals as goal

pub returns : goal.returns
returns c = search rules
