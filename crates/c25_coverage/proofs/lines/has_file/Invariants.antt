use Rattle.std.proofs.Common.{◌≡◌, drop, map}
use Rattle.std.specs.List.{list_any}
use Rattle.std.specs.Str.{bytes_eq}
use Rattle.c25_coverage.proofs.lines.has_file.Given as goal

abbrev pub invariant-loop-other : goal.invariant-loop-other
invariant-loop-other l = list_any (bytes_eq l.file) (map (λ other. other.now) (drop l.other-index l.files)) ≡ list_any (bytes_eq l.file) (map (λ other. other.now) l.files)
