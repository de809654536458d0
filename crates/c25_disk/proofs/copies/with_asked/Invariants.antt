use Rattle.c25_disk.specs.Copies.{HasCopied}
use Rattle.c25_disk.proofs.copies.with_asked.Given as goal

abbrev pub invariant-loop : goal.invariant-loop
invariant-loop g l = HasCopied (g.D.Disk.bytes_of l.fn.disk) l.fn.files l.counter l.files
