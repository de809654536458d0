-- the names so far, with those of the names that are left that are near, are those of all
use Rattle.std.proofs.Common.{◌≡◌, ◌++◌, drop, map}
use Rattle.c25_hints.specs.Similar.{near}
use Rattle.c25_hints.proofs.similar.push_near.Given as goal

abbrev pub invariant-loop-name : goal.invariant-loop-name
invariant-loop-name l =
    map (λ n. n.now) l.found.items ++ near l.count l.word (map (λ n. n.now) (drop l.name-index l.names))
    ≡ map (λ n. n.now) l.initial.found.items ++ near l.count l.word (map (λ n. n.now) l.names)
