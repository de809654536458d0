use Rattle.std.proofs.Common.{◌+◌, ◌≤◌, length}
use Rattle.c25_disk.specs.Copies.{HasCopied}
use Rattle.c25_disk.proofs.copies.with_named.Given as goal

abbrev pub invariant-loop : goal.invariant-loop
invariant-loop g l = HasCopied (g.D.Disk.bytes_of l.disk) l.fn.files 256 l.files × (l.most ≤ length l.fn.files + 256)
