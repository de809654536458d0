use Rattle.std.proofs.Common.{arith, refl}
use Rattle.c25_link_faults.specs.Overlaps.{span_data}
use Rattle.c25_rooms.proofs.Holed.{measured_range}
use Rattle.c25_rooms.proofs.rooms.room_of.Goals as goal

pub returns-clause-room : goal.returns-clause-room
returns-clause-room c = λ places k.
    let span = c.args.span.now in
    measured_range places (span_data span) c.max-end.result c.measured-measure.result _ (omega (arith, c.max-end.ensures)) refl refl refl (c.measured-measure.ensures span.page places k)
