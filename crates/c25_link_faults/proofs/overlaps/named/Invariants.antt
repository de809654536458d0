-- no section so far has the name
use Rattle.std.proofs.Common.{◌≡◌, None, find, map, take}
use Rattle.std.specs.Str.{bytes_eq}
use Rattle.c25_link_faults.specs.Overlaps.{span_data}
use Rattle.c25_link_faults.proofs.overlaps.named.Given as goal

abbrev pub invariant-loop-span : goal.invariant-loop-span
invariant-loop-span l = find (λ s. bytes_eq l.name s.name) (map span_data (take l.span-index l.list)) ≡ None
