use Rattle.c25_map.proofs.Readers.{one_map}
use Rattle.c25_map.proofs.laws.one_text_has_one_map.Goals as goal

pub returns : goal.returns
returns c = one_map
