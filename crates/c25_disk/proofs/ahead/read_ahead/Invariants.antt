use Rattle.std.proofs.Common.{◌+◌, ◌≤◌, length}
use Rattle.c25_meaning_expansion.specs.Files.{Files}
use Rattle.c25_disk.specs.Copies.{HasCopied}
use Rattle.c25_disk.proofs.ahead.read_ahead.Given as goal

abbrev pub invariant-loop-number : goal.invariant-loop-number
invariant-loop-number g l =
    (given : Files) → l.most ≤ length given + 256 → HasCopied (g.D.Disk.bytes_of l.disk) given 256 l.fn.files → HasCopied (g.D.Disk.bytes_of l.disk) given 256 l.files
