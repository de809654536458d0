-- the words so far are taken, and those from before
use Rattle.std.proofs.Common.{◌≡◌, ◌&&◌, ◌||◌, ℕ, false, leb, ltb, get_or}
use Rattle.c25_cmd.proofs.taken.take.Given as goal

abbrev pub invariant-loop-k : goal.invariant-loop-k
invariant-loop-k l = (j : ℕ) → get_or l.taken j false ≡ (get_or l.fn.taken j false || (leb l.start j && ltb j l.k))
