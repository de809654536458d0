use Rattle.std.proofs.Common.{sym}
use Rattle.c25_link_faults.specs.Overlaps.{is_in_way, span_data}
use Rattle.c25_place.proofs.Lacked.{found_at, none_more}
use Rattle.c25_link_faults.proofs.overlaps.in_way.Goals as goal

pub returns-then-is_in_way : goal.returns-then-is_in_way
returns-then-is_in_way c =
    found_at (is_in_way (span_data c.args.section.now)) span_data c.args.list.now c.loop-span.span-index _ c.loop-span-test.true c.loop-span.invariant (sym c.if-is_in_way.ensures)

pub loop-span-preserved : goal.loop-span-preserved
loop-span-preserved c =
    none_more (is_in_way (span_data c.args.section.now)) span_data c.args.list.now c.loop-span.span-index _ c.loop-span-test.true c.loop-span.invariant (sym c.if-is_in_way.ensures)
