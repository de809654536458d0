-- the samples that were counted and those that are left are those that the port had, and those of other ports stay
use Rattle.std.proofs.Common.{◌≡◌, ℕ, ◌+◌, length}
use Rattle.c25_meaning_processor.specs.Samples.{samples_at}
use Rattle.c25_unused_inputs.proofs.ports.take_all.Given as goal

abbrev pub invariant-loop-count : goal.invariant-loop-count
invariant-loop-count l = record {
  counted : l.count + length (samples_at l.samples l.port) ≡ length (samples_at l.initial.samples l.port);
  others : (other : ℕ) → (other ≡ l.port → ⊥) → samples_at l.samples other ≡ samples_at l.initial.samples other;
}
