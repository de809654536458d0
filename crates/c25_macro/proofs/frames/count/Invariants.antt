use Rattle.std.proofs.Common.{◌≡◌, ◌+◌, take, length, min, sum_by}
use Rattle.c25_macro.proofs.frames.count.Given as goal

abbrev pub invariant-loop-source : goal.invariant-loop-source
invariant-loop-source l = l.total ≡ min 32 (sum_by (λ s. length s.frame.branches + 1) (take l.source-index l.sources))
