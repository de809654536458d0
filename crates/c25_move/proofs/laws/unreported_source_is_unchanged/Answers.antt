use Rattle.c25_move.proofs.Sources.{unreported}
use Rattle.c25_move.proofs.laws.unreported_source_is_unchanged.Goals as goal

pub returns : goal.returns
returns c = unreported
