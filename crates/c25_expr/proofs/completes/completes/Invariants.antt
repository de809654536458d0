-- the rest completes what the tokens complete
use Rattle.std.proofs.Common.{◌≡◌, ◌+◌, ◌≤◌, drop}
use Rattle.c25_expr.specs.Completes.{completes}
use Rattle.c25_expr.specs.View.{marks_of}
use Rattle.c25_expr.proofs.completes.completes.Given as goal

abbrev pub invariant-loop-token : goal.invariant-loop-token
invariant-loop-token l =
    (completes (marks_of (drop l.token-index l.tokens)) l.expects l.groups ≡ completes (marks_of l.tokens) l.fn.expects l.fn.groups) × (l.groups ≤ l.fn.groups + l.token-index)
