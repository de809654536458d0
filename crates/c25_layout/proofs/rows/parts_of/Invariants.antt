-- the words up to the end are in the parts so far
use Rattle.std.proofs.Common.{ℕ, ◌-◌}
use Rattle.c25_layout.specs.Blank.{AreBlank}
use Rattle.c25_layout.specs.Layout.{ArePartsTo}
use Rattle.c25_layout.proofs.rows.parts_of.Given as goal

abbrev pub invariant-loop-end : goal.invariant-loop-end
invariant-loop-end l = (blank : ℕ) → AreBlank l.found.words.now blank l.found.long.now → ArePartsTo l.found.words.now blank l.parts.items l.end

abbrev pub decreases-loop-end : goal.decreases-loop-end
decreases-loop-end l = 65536 - l.end
