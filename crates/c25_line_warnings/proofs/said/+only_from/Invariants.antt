use Rattle.std.proofs.Common.{length}
use Rattle.c25_line_warnings.proofs.said.+only_from.Given as goal

abbrev pub decreases-only_from : goal.decreases-only_from
decreases-only_from l = length l.tokens.now
