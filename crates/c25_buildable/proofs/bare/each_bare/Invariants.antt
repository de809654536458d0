-- the parts so far are without their names
use Rattle.std.proofs.Common.{take}
use Rattle.c25_buildable.specs.Bare.{AreBareParts}
use Rattle.c25_buildable.proofs.bare.each_bare.Given as goal

abbrev pub invariant-loop-part : goal.invariant-loop-part
invariant-loop-part l = AreBareParts (take l.part-index l.parts) l.made.items
