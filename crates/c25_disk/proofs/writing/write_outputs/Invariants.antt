-- the files so far are written
use Rattle.std.proofs.Common.{map, take}
use Rattle.c25_disk.specs.Held.{Adds}
use Rattle.c25_disk.specs.Written.{contents_of}
use Rattle.c25_disk.proofs.writing.write_outputs.Given as goal

abbrev pub invariant-loop-output : goal.invariant-loop-output
invariant-loop-output g l = Adds (g.D.Disk.written l.initial.disk) (g.D.Disk.written l.disk) (map contents_of (take l.output-index l.outputs))
