use Rattle.std.proofs.Common.{◌≡◌, ◌++◌, take}
use Rattle.std.specs.List.{flat_map}
use Rattle.c25_counts.specs.Counting.{count_in}
use Rattle.c25_coverage.specs.Branches.{branch_at, counted_branch}
use Rattle.c25_coverage.specs.View.{branches_seen}
use Rattle.c25_meaning_linking.specs.Linking.{line_at}
use Rattle.c25_coverage.proofs.branches.push_marks.Given as goal

abbrev pub invariant-loop-mark : goal.invariant-loop-mark
invariant-loop-mark l =
    branches_seen l.branches.items
    ≡ branches_seen l.fn.branches.items
    ++ flat_map (λ m. counted_branch (branch_at l.image m.address) (line_at m.address l.image.lines) (count_in l.counts.acts.items m.address) (count_in l.counts.passes.items m.address)) (take l.mark-index l.mark-items)
