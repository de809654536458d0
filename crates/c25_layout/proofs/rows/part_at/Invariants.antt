-- the rows so far stand one after the other, up to the end
use Rattle.std.proofs.Common.{◌-◌}
use Rattle.c25_layout.proofs.InImage.{AreRowsTo}
use Rattle.c25_layout.proofs.rows.part_at.Given as goal

abbrev pub invariant-loop-next : goal.invariant-loop-next
invariant-loop-next l = AreRowsTo l.found.words.now l.address l.rows.items l.end l.next

abbrev pub decreases-loop-next : goal.decreases-loop-next
decreases-loop-next l = 65536 - l.end
