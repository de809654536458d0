-- the words help at none of the addresses so far
use Rattle.std.proofs.Common.{◌≡◌, false, take}
use Rattle.c25_rooms.specs.Bases.{help_at}
use Rattle.c25_rooms.specs.Crossings.{block_data}
use Rattle.c25_rooms.proofs.bases.helps.Given as goal

abbrev pub invariant-loop-base : goal.invariant-loop-base
invariant-loop-base l = help_at (take l.base-index l.bases) (block_data l.block) l.words ≡ false
