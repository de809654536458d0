use Rattle.c25_places.proofs.Refusals.{has_part}
use Rattle.c25_places.proofs.laws.refusals_have_parts.Goals as goal

pub returns : goal.returns
returns c = has_part
