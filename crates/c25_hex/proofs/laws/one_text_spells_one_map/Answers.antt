use Rattle.c25_hex.proofs.ReadBack.{same_words}
use Rattle.c25_hex.proofs.laws.one_text_spells_one_map.Goals as goal

pub returns : goal.returns
returns c = same_words
