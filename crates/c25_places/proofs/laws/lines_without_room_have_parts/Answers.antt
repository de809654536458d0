use Rattle.c25_places.proofs.Rooms.{full_has_part}
use Rattle.c25_places.proofs.laws.lines_without_room_have_parts.Goals as goal

pub returns : goal.returns
returns c = full_has_part
