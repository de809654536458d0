use Rattle.std.proofs.Common.{◌≡◌, ◌++◌, map, take, string_bytes}
use Rattle.std.specs.List.{flat_map}
use Rattle.c25_coverage.specs.List.{named_text}
use Rattle.c25_coverage.specs.View.{branches_seen, places_of}
use Rattle.c25_coverage.proofs.list.push_all.Given as goal

abbrev pub invariant-loop-name : goal.invariant-loop-name
invariant-loop-name l =
    string_bytes l.text
    ≡ string_bytes l.fn.text
    ++ flat_map (named_text l.files (places_of l.counted.places.items) (branches_seen l.counted.branches.items)) (map (λ name. name.now) (take l.name-index l.names))
