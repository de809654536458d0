-- each file so far is read
use Rattle.std.specs.List.{All}
use Rattle.c25_move_files.specs.Files.{IsRead, old_of}
use Rattle.c25_move_files.proofs.gathering.copied_by_sources.Given as goal

abbrev pub invariant-loop-source : goal.invariant-loop-source
invariant-loop-source g l = All (λ f. IsRead (g.D.Disk.bytes_of l.old.disk.now) l.old.code_page (old_of f)) l.copied.items
