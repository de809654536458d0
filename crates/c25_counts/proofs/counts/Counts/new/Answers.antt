use Rattle.std.proofs.Common.{◌∙◌, ap, ℕ, List, length}
use Rattle.std.proofs.lemmas.List.{length-replicate}
use Rattle.c25_counts.proofs.Tally.{none_in}
use Rattle.c25_counts.specs.Counting.{count_in}
use Rattle.c25_counts.proofs.counts.Counts.new.Goals as goal

pub invariant_of-result-clause-all_acts : goal.invariant_of-result-clause-all_acts
invariant_of-result-clause-all_acts c = ap length c.in_ok-lists.ensures.0 ∙ length-replicate {A = ℕ} 65536 0

pub invariant_of-result-clause-all_passes : goal.invariant_of-result-clause-all_passes
invariant_of-result-clause-all_passes c = ap length c.in_ok-lists.ensures.1 ∙ length-replicate {A = ℕ} 65536 0

pub invariant_of-result-clause-all_ends : goal.invariant_of-result-clause-all_ends
invariant_of-result-clause-all_ends c = c.in_ok-ends.ensures.all

pub returns-clause-acts : goal.returns-clause-acts
returns-clause-acts c = λ address. ap (λ (counts : List ℕ). count_in counts address) c.in_ok-lists.ensures.0 ∙ none_in 65536 address

pub returns-clause-passes : goal.returns-clause-passes
returns-clause-passes c = λ address. ap (λ (counts : List ℕ). count_in counts address) c.in_ok-lists.ensures.1 ∙ none_in 65536 address
