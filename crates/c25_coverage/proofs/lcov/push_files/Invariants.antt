use Rattle.std.proofs.Common.{◌≡◌, ◌++◌, map, take, string_bytes}
use Rattle.std.specs.List.{flat_map}
use Rattle.c25_coverage.specs.Branches.{ways_of}
use Rattle.c25_coverage.specs.Lcov.{record_text}
use Rattle.c25_coverage.specs.Lines.{lines_of}
use Rattle.c25_coverage.specs.View.{branches_seen, places_of}
use Rattle.c25_coverage.proofs.lcov.push_files.Given as goal

abbrev pub invariant-loop-file : goal.invariant-loop-file
invariant-loop-file l =
    string_bytes l.text ≡ string_bytes l.fn.text ++ flat_map (λ file. record_text file (ways_of (branches_seen l.branches) file) (lines_of (places_of l.places) file)) (map (λ file. file.now) (take l.file-index l.files))
