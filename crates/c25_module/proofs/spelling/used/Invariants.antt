use Rattle.std.proofs.Common.{◌≡◌, drop}
use Rattle.std.specs.List.{fold}
use Rattle.c25_meaning_objects.specs.Module.{used, used_with}
use Rattle.c25_module.proofs.spelling.used.Given as goal

abbrev pub invariant-loop-line : goal.invariant-loop-line
invariant-loop-line l = fold used_with l.count (drop l.line-index l.lines) ≡ used l.lines
