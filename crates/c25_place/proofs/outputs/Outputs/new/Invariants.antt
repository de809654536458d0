-- each name has the sum of the sections so far
use Rattle.std.proofs.Common.{◌≡◌, ℕ, List, take}
use Rattle.c25_place.specs.Outputs.{output_of}
use Rattle.c25_place.specs.View.{named, sections_view}
use Rattle.c25_place.proofs.outputs.Outputs.new.Given as goal

abbrev pub invariant-loop-section : goal.invariant-loop-section
invariant-loop-section l = (name : List ℕ) → named l.found name ≡ output_of name (sections_view (take l.section-index l.sections))
