use Rattle.std.proofs.Common.{◌≡◌, length}
use Rattle.c25_hex.specs.Cells.{has_odd_pair}
use Rattle.c25_hex.proofs.reader.has_odd_pair.Given as goal

abbrev pub invariant-loop-rest : goal.invariant-loop-rest
invariant-loop-rest l = has_odd_pair l.rest ≡ has_odd_pair l.cells

abbrev pub decreases-loop-rest : goal.decreases-loop-rest
decreases-loop-rest l = length l.rest
