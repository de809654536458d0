use Rattle.std.proofs.Common.{sym}
use Rattle.std.specs.Str.{bytes_eq}
use Rattle.c25_link_faults.specs.Overlaps.{SpanData, span_data}
use Rattle.c25_place.proofs.Lacked.{found_at, none_more}
use Rattle.c25_link_faults.proofs.overlaps.named.Goals as goal

pub returns-then-is_called : goal.returns-then-is_called
returns-then-is_called c =
    found_at (λ (s : SpanData). bytes_eq c.args.name.now s.name) span_data c.args.list.now c.loop-span.span-index _ c.loop-span-test.true c.loop-span.invariant (sym c.if-is_called.ensures)

pub loop-span-preserved : goal.loop-span-preserved
loop-span-preserved c =
    none_more (λ (s : SpanData). bytes_eq c.args.name.now s.name) span_data c.args.list.now c.loop-span.span-index _ c.loop-span-test.true c.loop-span.invariant (sym c.if-is_called.ensures)
