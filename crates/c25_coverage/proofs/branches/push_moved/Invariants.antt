use Rattle.std.proofs.Common.{◌≡◌, ◌++◌, take}
use Rattle.std.specs.List.{flat_map}
use Rattle.c25_coverage.specs.Branches.{branch_at, branch_if}
use Rattle.c25_coverage.proofs.branches.push_moved.Given as goal

abbrev pub invariant-loop-mark : goal.invariant-loop-mark
invariant-loop-mark l = l.branches.items ≡ l.fn.branches.items ++ flat_map (λ m. branch_if (branch_at l.image m.load) m.run) (take l.mark-index l.mark-items)
