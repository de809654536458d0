-- the counts so far, and the samples of the ports that are to be counted
use Rattle.std.proofs.Common.{◌≡◌, ℕ, ◌≤◌}
use Rattle.c25_meaning_processor.specs.Samples.{samples_at}
use Rattle.c25_unused_inputs.specs.Ports.{counts_below}
use Rattle.c25_unused_inputs.proofs.ports.counts_of.Given as goal

abbrev pub invariant-loop-port : goal.invariant-loop-port
invariant-loop-port l = record {
  made : l.counts.items ≡ counts_below (samples_at l.initial.samples) l.port;
  rest : (p : ℕ) → l.port ≤ p → samples_at l.samples p ≡ samples_at l.initial.samples p;
}
