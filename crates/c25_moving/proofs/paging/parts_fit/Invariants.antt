-- the parts that are left fit from where they begin, where all do
use Rattle.std.proofs.Common.{◌≡◌, drop}
use Rattle.c25_moving.specs.BssPlace.{parts_fit}
use Rattle.c25_moving.proofs.paging.parts_fit.Given as goal

abbrev pub invariant-loop-part : goal.invariant-loop-part
invariant-loop-part l = parts_fit l.start (drop l.part-index l.parts) ≡ parts_fit l.address l.parts
