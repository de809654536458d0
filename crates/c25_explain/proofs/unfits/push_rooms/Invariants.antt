-- the notes about the ranges so far stand there
use Rattle.std.proofs.Common.{◌≡◌, ◌++◌, map, take}
use Rattle.c25_rooms.specs.Holes.{room_data}
use Rattle.c25_explain.specs.Again.{notes_view, room_note}
use Rattle.c25_explain.proofs.unfits.push_rooms.Given as goal

abbrev pub invariant-loop-room : goal.invariant-loop-room
invariant-loop-room l = notes_view l.notes.items ≡ notes_view l.fn.notes.items ++ map room_note (map room_data (take l.room-index l.rooms))
