-- each file so far is read
use Rattle.std.specs.List.{All}
use Rattle.c25_move_files.specs.Files.{IsRead, old_of}
use Rattle.c25_move_files.proofs.gathering.all_copied.Given as goal

abbrev pub invariant-loop-number : goal.invariant-loop-number
invariant-loop-number g l = All (λ f. IsRead (g.D.Disk.bytes_of l.old.disk.now) l.old.code_page (old_of f)) l.copied.items
