use Rattle.std.proofs.Common.{◌<◌, ◌^◌, drop}
use Rattle.std.specs.List.{AllByRecursion}
use Rattle.c25_module.proofs.sized.sized_lines.Given as goal

abbrev pub invariant-loop-line : goal.invariant-loop-line
invariant-loop-line l =
    AllByRecursion (λ l. (l.file < 2 ^ 16) × (l.line < 2 ^ 32)) (drop l.line-index l.lines)
    → AllByRecursion (λ l. (l.file < 2 ^ 16) × (l.line < 2 ^ 32)) l.lines
