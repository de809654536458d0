use Rattle.std.proofs.Common.{arith}
use Rattle.c25_rooms.proofs.Opened.{opened_range}
use Rattle.c25_rooms.proofs.space.mark_range.Goals as goal

pub returns-clause-opened : goal.returns-clause-opened
returns-clause-opened c = λ places k.
    let range = c.args.range.now in
    opened_range range.page places range.first range.last c.max-end.result c.args.size c.args.marks.now c.mark_places.new.marks c.requires.some (omega (arith, c.max-end.ensures))
    (c.mark_places.ensures.opened range.page places k)
