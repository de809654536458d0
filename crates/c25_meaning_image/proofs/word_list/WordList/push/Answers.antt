use Rattle.std.proofs.Common.{rules}
use Rattle.c25_meaning_image.proofs.word_list.WordList.push.Goals as goal

pub returns-clause-ok : goal.returns-clause-ok
returns-clause-ok c = search rules
