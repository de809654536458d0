use Rattle.std.proofs.Common.{◌≡◌, [], fold, map, take}
use Rattle.c25_coverage.specs.Lines.{with_file}
use Rattle.c25_coverage.specs.View.{place_of}
use Rattle.c25_coverage.proofs.lines.files_of.Given as goal

abbrev pub invariant-loop-place : goal.invariant-loop-place
invariant-loop-place l = map (λ file. file.now) l.files.items ≡ fold (λ files place. with_file files (place_of place).file) [] (take l.place-index l.places)
