use Rattle.std.specs.Option.{option_map}
use Rattle.c25_asm.specs.Seen.{seen_of}
use Rattle.c25_earlier.proofs.InOrder.{lent, refused_here}
use Rattle.c25_earlier.proofs.defined.earlier_line.Goals as goal

pub returns-in-Refused : goal.returns-in-Refused
returns-in-Refused c =
    refused_here c.args.files.now c.args.sources.now c.loop-source.source-index _ c.loop-source-test.true c.in-Refused.refused
    (option_map (λ b. seen_of b.now) c.as_ref.result) c.defined_before.result (rw c.in-Refused.is at c.in_ok-trace.ensures)
    (lent c.as_ref.result c.in-Refused.refused.seen c.as_ref.ensures.value) c.defined_before.ensures c.loop-source.invariant
