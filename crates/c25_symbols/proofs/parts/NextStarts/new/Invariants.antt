-- each name so far has the first of its places
use Rattle.std.proofs.Common.{◌≡◌, ℕ, List, take}
use Rattle.c25_symbols.specs.Parts.{first_of}
use Rattle.c25_symbols.specs.View.{named, places_view}
use Rattle.c25_symbols.proofs.parts.NextStarts.new.Given as goal

abbrev pub invariant-loop-section : goal.invariant-loop-section
invariant-loop-section l = (name : List ℕ) → named l.found name ≡ first_of (places_view (take l.section-index l.sections)) name
