use Rattle.std.proofs.Common.{◌≡◌, ◌||◌, ℕ, drop, length}
use Rattle.c25_count_laws.specs.Counts.{ends_at}
use Rattle.c25_counts.specs.Counting.{ends_in}
use Rattle.c25_counts.proofs.counts.ends_of.Given as goal

abbrev pub invariant-loop-branch : goal.invariant-loop-branch
invariant-loop-branch l =
    record {
      all : length l.ends.items ≡ 65536;
      ends : (pc : ℕ) → (ends_in l.ends.items pc || ends_at (drop l.branch-index l.branches) pc) ≡ ends_at l.branches pc;
    }
