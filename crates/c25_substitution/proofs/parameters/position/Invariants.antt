-- the name was not seen so far
use Rattle.std.proofs.Common.{◌≡◌, None, take}
use Rattle.std.specs.Map.{lookup}
use Rattle.std.specs.Str.{bytes_eq}
use Rattle.c25_substitution.specs.Pairs.{pairs}
use Rattle.c25_substitution.proofs.parameters.position.Given as goal

abbrev pub invariant-loop-i : goal.invariant-loop-i
invariant-loop-i l = lookup (bytes_eq l.name) (pairs (take l.i l.entries)) ≡ None
