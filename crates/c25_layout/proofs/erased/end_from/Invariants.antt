-- the words up to here are erased
use Rattle.std.proofs.Common.{ℕ, ◌<◌, ◌≤◌}
use Rattle.c25_layout.specs.Blank.{IsErased}
use Rattle.c25_layout.proofs.erased.end_from.Given as goal

abbrev pub invariant-loop-address : goal.invariant-loop-address
invariant-loop-address l = (a : ℕ) → l.from ≤ a → a < l.address → IsErased l.words a
