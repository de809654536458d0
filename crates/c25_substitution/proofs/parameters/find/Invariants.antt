-- the name was not seen so far
use Rattle.std.proofs.Common.{◌≡◌, drop}
use Rattle.std.specs.Map.{lookup}
use Rattle.std.specs.Str.{bytes_eq}
use Rattle.c25_substitution.specs.Pairs.{pairs}
use Rattle.c25_substitution.proofs.parameters.find.Given as goal

abbrev pub invariant-loop-parameter : goal.invariant-loop-parameter
invariant-loop-parameter l = lookup (bytes_eq l.name) (pairs (drop l.parameter-index l.entries)) ≡ lookup (bytes_eq l.name) (pairs l.entries)
