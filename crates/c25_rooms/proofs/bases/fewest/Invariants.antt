-- no fewer words help
use Rattle.std.proofs.Common.{◌≡◌, ◌<◌, ℕ, false}
use Rattle.c25_rooms.specs.Bases.{help_at}
use Rattle.c25_rooms.specs.Crossings.{block_data}
use Rattle.c25_rooms.proofs.bases.fewest.Given as goal

abbrev pub invariant-loop-words : goal.invariant-loop-words
invariant-loop-words l = (other : ℕ) → other < l.words → help_at l.bases (block_data l.block) other ≡ false
