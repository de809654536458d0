use Rattle.std.proofs.Common.{◌≡◌, ◌++◌, drop, string_bytes}
use Rattle.c25_explain.specs.Trails.{openings_text}
use Rattle.c25_explain.proofs.trails.openings_text.Given as goal

abbrev pub invariant-loop-place : goal.invariant-loop-place
invariant-loop-place l = string_bytes l.text ++ openings_text l.files (drop l.place-index l.trail) ≡ openings_text l.files l.trail
