-- the part runs apart from the others so far
use Rattle.std.proofs.Common.{take}
use Rattle.std.specs.List.{AllByRecursion}
use Rattle.c25_layout.specs.Buildable.{RunApart}
use Rattle.c25_buildable.proofs.runs.runs_alone.Given as goal

abbrev pub invariant-loop-other : goal.invariant-loop-other
invariant-loop-other l = AllByRecursion (RunApart l.part) (take l.other-index l.others)
