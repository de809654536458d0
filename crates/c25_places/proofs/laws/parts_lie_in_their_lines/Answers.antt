use Rattle.c25_places.proofs.Refusals.{lies_within}
use Rattle.c25_places.proofs.laws.parts_lie_in_their_lines.Goals as goal

pub returns : goal.returns
returns c = lies_within
