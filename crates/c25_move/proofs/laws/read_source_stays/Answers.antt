use Rattle.c25_move.proofs.Sources.{read}
use Rattle.c25_move.proofs.laws.read_source_stays.Goals as goal

pub returns : goal.returns
returns c = read
