use Rattle.std.proofs.Common.{◌≡◌, ◌++◌, take}
use Rattle.std.specs.List.{flat_map}
use Rattle.c25_counts.specs.Counting.{count_in}
use Rattle.c25_coverage.specs.Branches.{branch_at, counted_branch}
use Rattle.c25_coverage.specs.View.{branches_seen}
use Rattle.c25_meaning_linking.specs.Linking.{line_at}
use Rattle.c25_coverage.proofs.branches.push_run_marks.Given as goal

abbrev pub invariant-loop-mark : goal.invariant-loop-mark
invariant-loop-mark l =
    branches_seen l.branches.items
    ≡ branches_seen l.fn.branches.items
    ++ flat_map (λ m. counted_branch (branch_at l.image m.load) (line_at m.load l.image.lines) (count_in l.counts.acts.items m.run) (count_in l.counts.passes.items m.run)) (take l.mark-index l.mark-items)
