-- each file so far is read
use Rattle.std.specs.List.{All}
use Rattle.c25_move_files.specs.Files.{IsRead, old_of}
use Rattle.c25_move_files.proofs.gathering.add_all.Given as goal

abbrev pub invariant-loop-one : goal.invariant-loop-one
invariant-loop-one g l = All (λ f. IsRead (g.D.Disk.bytes_of l.old.disk.now) l.old.code_page (old_of f)) l.initial.copied.items → All (λ f. IsRead (g.D.Disk.bytes_of l.old.disk.now) l.old.code_page (old_of f)) l.copied.items
