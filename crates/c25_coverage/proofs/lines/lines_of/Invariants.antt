use Rattle.std.proofs.Common.{◌≡◌, [], fold, take}
use Rattle.c25_coverage.specs.Lines.{with_place}
use Rattle.c25_coverage.specs.View.{place_of}
use Rattle.c25_coverage.proofs.lines.lines_of.Given as goal

abbrev pub invariant-loop-place : goal.invariant-loop-place
invariant-loop-place l = l.lines.entries ≡ fold (λ lines place. with_place l.file lines (place_of place)) [] (take l.place-index l.places)
