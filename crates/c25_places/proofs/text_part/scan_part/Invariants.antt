-- what is found from here on is what is found from the beginning
use Rattle.std.proofs.Common.{length, ◌-◌, ◌≡◌, ◌≤◌}
use Rattle.c25_places.specs.TextPart.{scan_part}
use Rattle.c25_places.proofs.text_part.scan_part.Given as goal

abbrev pub invariant-loop-at : goal.invariant-loop-at
invariant-loop-at l = (scan_part l.at l.text ≡ scan_part l.fn.from l.text) × (l.at ≤ length l.text)

abbrev pub decreases-loop-at : goal.decreases-loop-at
decreases-loop-at l = length l.text - l.at
