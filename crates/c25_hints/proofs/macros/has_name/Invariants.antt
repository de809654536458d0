-- the name is among the names that are left where it is among all
use Rattle.std.proofs.Common.{◌≡◌, drop, map}
use Rattle.c25_hints.specs.Macros.{has_name}
use Rattle.c25_hints.proofs.macros.has_name.Given as goal

abbrev pub invariant-loop-other : goal.invariant-loop-other
invariant-loop-other l = has_name (map (λ n. n.now) (drop l.other-index l.names)) l.name ≡ has_name (map (λ n. n.now) l.names) l.name
