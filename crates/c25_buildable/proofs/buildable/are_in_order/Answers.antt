use Rattle.c25_buildable.proofs.Tables.{names_are}
use Rattle.c25_buildable.specs.Places.{places_view}
use Rattle.c25_buildable.proofs.buildable.are_in_order.Goals as goal

pub returns-in-Ok : goal.returns-in-Ok
returns-in-Ok c = λ fine.
    names_are c.in-Ok.table (places_view c.args.places.now) c.args.parts.now c.in-Ok.ensures (c.are_placed.ensures.runs fine) (c.are_placed.ensures.targets (places_view c.args.places.now) c.in-Ok.ensures fine)
