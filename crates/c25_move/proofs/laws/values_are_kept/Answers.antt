use Rattle.c25_move.proofs.Sources.{kept, labels_kept}
use Rattle.c25_move.proofs.laws.values_are_kept.Goals as goal

pub returns : goal.returns
returns c = record { values = kept; labels = labels_kept }
