use Rattle.c25_disk.proofs.Completed.{Completes}
use Rattle.c25_disk.proofs.sources.read_sources.Given as goal

abbrev pub invariant-loop-name : goal.invariant-loop-name
invariant-loop-name g l = Completes (g.D.Disk.bytes_of l.disk) l.names l.files l.name-index
