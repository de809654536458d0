use Rattle.std.proofs.Common.{◌≡◌, [], fold, take}
use Rattle.c25_coverage.specs.Branches.{with_branch}
use Rattle.c25_coverage.specs.View.{branch_of}
use Rattle.c25_coverage.proofs.branches.lines_of.Given as goal

abbrev pub invariant-loop-branch : goal.invariant-loop-branch
invariant-loop-branch l = l.lines.entries ≡ fold (λ lines branch. with_branch l.file lines (branch_of branch)) [] (take l.branch-index l.branches)
