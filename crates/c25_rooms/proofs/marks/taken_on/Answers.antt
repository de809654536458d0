use Rattle.std.proofs.Common.{◌∙◌}
use Rattle.c25_place.proofs.Fits.{taken_none}
use Rattle.c25_rooms.proofs.marks.taken_on.Goals as goal

pub take_places-requires-clause-none : goal.take_places-requires-clause-none
take_places-requires-clause-none c = taken_none c.deref_mut.result.now c.args.page (c.deref_mut.ensures.value ∙ c.in_ok-taken.ensures)
