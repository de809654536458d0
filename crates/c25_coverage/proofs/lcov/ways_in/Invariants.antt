use Rattle.std.proofs.Common.{◌≡◌, take}
use Rattle.c25_coverage.specs.Lcov.{ways_in}
use Rattle.c25_coverage.proofs.lcov.ways_in.Given as goal

abbrev pub invariant-loop-line : goal.invariant-loop-line
invariant-loop-line l = l.gone.items ≡ ways_in (take l.line-index l.lines)
