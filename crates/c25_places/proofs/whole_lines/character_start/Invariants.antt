-- the character has the byte at the place that is looked at
use Rattle.std.proofs.Common.{◌≡◌, ◌<◌, length}
use Rattle.std.specs.Fmt.Cut.{floor_char_boundary}
use Rattle.c25_places.proofs.whole_lines.character_start.Given as goal

abbrev pub invariant-loop-at : goal.invariant-loop-at
invariant-loop-at l = (floor_char_boundary l.text l.at ≡ floor_char_boundary l.text l.place) × (l.at < length l.text)

abbrev pub decreases-loop-at : goal.decreases-loop-at
decreases-loop-at l = l.at
