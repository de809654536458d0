-- one of the ranges that are left has room where one of all has
use Rattle.std.proofs.Common.{◌≡◌, drop}
use Rattle.c25_cmd.specs.View.{ranges_of}
use Rattle.c25_moving.specs.BssPlace.{has_room}
use Rattle.c25_moving.proofs.bss_place.has_room_in.Given as goal

abbrev pub invariant-loop-range : goal.invariant-loop-range
invariant-loop-range l = has_room l.page l.address l.words (ranges_of (drop l.range-index l.memory)) ≡ has_room l.page l.address l.words (ranges_of l.memory)
