-- the name is one of those that are left where it is one of all
use Rattle.std.proofs.Common.{◌≡◌, drop, map}
use Rattle.c25_move_files.specs.Names.{is_among}
use Rattle.c25_move_files.proofs.names.is_among.Given as goal

abbrev pub invariant-loop-one : goal.invariant-loop-one
invariant-loop-one l = is_among (map (λ n. n.now) (drop l.one-index l.names)) l.name ≡ is_among (map (λ n. n.now) l.names) l.name
