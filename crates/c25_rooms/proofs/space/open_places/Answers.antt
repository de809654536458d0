use Rattle.std.proofs.Common.{Bool, List, ap, map, ◌∙◌}
use Rattle.std.proofs.lemmas.Result.{IfOk-weaker}
use Rattle.c25_link_faults.specs.Overlaps.{span_data}
use Rattle.c25_place.specs.View.{places_view}
use Rattle.c25_rooms.specs.Bases.{marked_places}
use Rattle.c25_rooms.proofs.Tried.{tried_marked}
use Rattle.c25_rooms.proofs.space.open_places.Goals as goal

pub returns : goal.returns
returns c =
    IfOk-weaker c.marked_places.result _ _
    (λ list is. tried_marked (places_view c.args.places.now) (map span_data c.args.ranges.now) c.args.size c.in_ok-roomy.roomy.items list.items (is ∙ ap (λ (xs : List Bool). marked_places xs) c.deref.ensures.value) c.in_ok-roomy.ensures.roomy)
    c.marked_places.ensures
