use Rattle.std.proofs.Common.{Bool, List, ap, false, length, ◌∙◌}
use Rattle.std.proofs.lemmas.List.{length-replicate}
use Rattle.c25_place.specs.View.{places_view}
use Rattle.c25_rooms.proofs.Opened.{roomy_none}
use Rattle.c25_rooms.proofs.space.roomy_places.Goals as goal

pub mark_ranges-requires-clause-sized : goal.mark_ranges-requires-clause-sized
mark_ranges-requires-clause-sized c = ap (λ (xs : List Bool). length xs) (c.deref_mut.ensures.value ∙ c.in_ok-roomy.ensures) ∙ length-replicate 128 false

pub mark_ranges-requires-clause-none : goal.mark_ranges-requires-clause-none
mark_ranges-requires-clause-none c = roomy_none (places_view c.args.places.now) c.args.size c.deref_mut.result.now (c.deref_mut.ensures.value ∙ c.in_ok-roomy.ensures)
