use Rattle.std.proofs.Common.{length}
use Rattle.c25_statements.proofs.shapes.+others.Given as goal

abbrev pub decreases-others : goal.decreases-others
decreases-others l = length l.operands.now
