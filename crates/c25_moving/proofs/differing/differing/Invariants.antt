-- the addresses so far at which the programs differ
use Rattle.c25_moving.specs.Differing.{AreDifferences}
use Rattle.c25_moving.proofs.differing.differing.Given as goal

abbrev pub invariant-loop-address : goal.invariant-loop-address
invariant-loop-address l = AreDifferences l.old l.new l.address l.differing.items
