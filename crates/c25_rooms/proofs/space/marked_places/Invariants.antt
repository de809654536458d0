-- the places so far that are marked
use Rattle.std.proofs.Common.{◌≡◌, false, filter, get_or}
use Rattle.std.specs.List.{range_with_len}
use Rattle.c25_rooms.proofs.space.marked_places.Given as goal

abbrev pub invariant-loop-place : goal.invariant-loop-place
invariant-loop-place l = l.list.items ≡ filter (λ place. get_or l.marks place false) (range_with_len 0 l.place)
