use Rattle.std.proofs.Common.{◌≡◌, map, string_bytes, take}
use Rattle.c25_fronts.specs.Fronts.{front_name}
use Rattle.c25_fronts.proofs.adding.front_names.Given as goal

abbrev pub invariant-loop-name : goal.invariant-loop-name
invariant-loop-name l = map string_bytes l.made.items ≡ map front_name (map (λ name. name.now) (take l.name-index l.names))
