use Rattle.std.proofs.Common.{◌≡◌, ◌∙◌, ℕ, ◌+◌, ◌≤◌, arith}
use Rattle.c25_meaning_processor.specs.Samples.{samples_at}
use Rattle.c25_unused_inputs.proofs.Below.{counts_more}
use Rattle.c25_unused_inputs.proofs.ports.counts_of.Goals as goal

pub loop-port-preserved : goal.loop-port-preserved
loop-port-preserved c = record {
  made = counts_more _ (samples_at c.loop-port.samples) c.loop-port.port c.loop-port.counts.items _ c.take_all.result
      c.in_ok-push.ensures.items c.loop-port.invariant.made c.take_all.ensures.count (c.loop-port.invariant.rest c.loop-port.port (omega arith));
  rest = λ p le. c.take_all.ensures.others p (λ same. omega (arith, same, le)) ∙ c.loop-port.invariant.rest p (omega (arith, le));
}
