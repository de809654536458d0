use Rattle.std.proofs.Common.{◌≡◌, ◌++◌, drop, map, string_bytes}
use Rattle.std.specs.Prelude.{zip}
use Rattle.std.specs.Vec.Iter.{into_iter_items}
use Rattle.c25_disk.specs.Written.{contents_of}
use Rattle.c25_report.proofs.texts.push_listings.Given as goal

abbrev pub invariant-loop-name : goal.invariant-loop-name
invariant-loop-name l =
    map contents_of l.outputs.items ++ zip (map string_bytes (drop l.name-index l.names)) (map string_bytes (into_iter_items l.texts))
    ≡ map contents_of l.initial.outputs.items ++ zip (map string_bytes l.names) (map string_bytes l.fn.listings.items)
