use Rattle.std.proofs.Common.{◌≡◌, drop, map, option_map}
use Rattle.std.specs.List.{list_any}
use Rattle.c25_fronts.specs.Folders.{is_name_of}
use Rattle.c25_fronts.proofs.places.is_beside.Given as goal

abbrev pub invariant-loop-one : goal.invariant-loop-one
invariant-loop-one l =
    list_any (is_name_of l.name) (map (option_map (λ one. one.now)) (drop l.one-index l.beside)) ≡ list_any (is_name_of l.name) (map (option_map (λ one. one.now)) l.beside)
