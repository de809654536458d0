-- one of the names that are left is among the others where one of all is
use Rattle.std.proofs.Common.{◌≡◌, drop, map}
use Rattle.c25_move_files.specs.Names.{meet}
use Rattle.c25_move_files.proofs.names.meet.Given as goal

abbrev pub invariant-loop-name : goal.invariant-loop-name
invariant-loop-name l = meet (map (λ n. n.now) (drop l.name-index l.names)) (map (λ n. n.now) l.others) ≡ meet (map (λ n. n.now) l.names) (map (λ n. n.now) l.others)
