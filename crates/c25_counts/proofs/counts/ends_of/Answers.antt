use Rattle.std.proofs.Common.{◌≡◌, ◌∙◌, ◌+◌, ◌<◌, ◌≤◌, ◌||◌, ap, sym, ℕ, Bool, List, true, false, drop, length, rules}
use Rattle.std.proofs.lemmas.List.{length-replicate, length-set}
use Rattle.std.specs.Prelude.{◌%◌, ◌^◌, slice_index, slice_set}
use Rattle.c25_count_laws.specs.Counts.{ends_at}
use Rattle.c25_counts.proofs.Ends.{all_marked, mark_one, none_marked}
use Rattle.c25_counts.specs.Counting.{ends_in}
use Rattle.c25_counts.proofs.counts.ends_of.Goals as goal

pub loop-branch-init : goal.loop-branch-init
loop-branch-init c =
    record {
      all = ap length c.in_ok-ends.ensures ∙ length-replicate 65536 false;
      ends = λ pc. ap (λ (es : List Bool). ends_in es pc || ends_at c.args.branches.now pc) c.in_ok-ends.ensures ∙ none_marked c.args.branches.now pc;
    }

pub loop-branch-preserved : goal.loop-branch-preserved
loop-branch-preserved c =
    let i = c.loop-branch.invariant in
    let branches = c.args.branches.now in
    let ends = c.loop-branch.ends.items in
    let k = c.loop-branch.branch-index in
    let within : k < length branches = search rules in
    let at : c.from.result ≡ (slice_index branches k + 2) % 2 ^ 16 = search rules in
    record {
      all = length-set ends c.from.result true ∙ i.all;
      ends = λ pc.
          ap (λ (p : ℕ). ends_in (slice_set ends p true) pc || ends_at (drop (k + 1) branches) pc) at
          ∙ mark_one ends branches k pc within i.all
          ∙ i.ends pc;
    }

pub returns-clause-ends : goal.returns-clause-ends
returns-clause-ends c =
    let i = c.loop-branch.invariant in
    let branches = c.args.branches.now in
    let past : length branches ≤ c.loop-branch.branch-index = search rules in
    λ pc. sym (all_marked c.loop-branch.ends.items branches c.loop-branch.branch-index pc past) ∙ i.ends pc
