-- no other section so far shares a word
use Rattle.std.proofs.Common.{◌≡◌, None, find, map, take}
use Rattle.c25_link_faults.specs.Overlaps.{is_in_way, span_data}
use Rattle.c25_link_faults.proofs.overlaps.in_way.Given as goal

abbrev pub invariant-loop-span : goal.invariant-loop-span
invariant-loop-span l = find (is_in_way (span_data l.section)) (map span_data (take l.span-index l.list)) ≡ None
