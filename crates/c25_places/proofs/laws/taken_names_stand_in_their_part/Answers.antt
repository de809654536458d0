use Rattle.c25_places.proofs.TakenNames.{named_at}
use Rattle.c25_places.proofs.laws.taken_names_stand_in_their_part.Goals as goal

pub returns : goal.returns
returns c = named_at
