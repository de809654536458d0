use Rattle.c25_map.proofs.Readers.{no_longer_text}
use Rattle.c25_map.proofs.laws.no_text_begins_another.Goals as goal

pub returns : goal.returns
returns c = no_longer_text
