-- the items so far are the same
use Rattle.std.proofs.Common.{◌≡◌, map, string_bytes, take, length}
use Rattle.c25_old_expressions.specs.Labels.{renamed_item}
use Rattle.c25_old_expressions.specs.Reader.{item_of}
use Rattle.c25_old_expressions.proofs.values.have_same_items.Given as goal

abbrev pub invariant-loop-place : goal.invariant-loop-place
invariant-loop-place l = (map (renamed_item (map string_bytes l.labels)) (map item_of (take l.place l.one)) ≡ map item_of (take l.place l.other)) × (length l.one ≡ length l.other)
