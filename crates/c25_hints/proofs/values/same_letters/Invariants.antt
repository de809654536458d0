-- the first of the names that are left is the first of all
use Rattle.std.proofs.Common.{◌≡◌, drop, map}
use Rattle.c25_hints.specs.Values.{same_letters}
use Rattle.c25_hints.proofs.values.same_letters.Given as goal

abbrev pub invariant-loop-other : goal.invariant-loop-other
invariant-loop-other l = same_letters (map (λ n. n.now) (drop l.other-index l.names)) l.name ≡ same_letters (map (λ n. n.now) l.names) l.name
