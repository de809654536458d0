use Rattle.c25_hex.proofs.ReadBack.{read_back}
use Rattle.c25_hex.proofs.laws.written_texts_are_read_back.Goals as goal

pub returns : goal.returns
returns c = read_back
