-- each file so far is read
use Rattle.std.proofs.Common.{◌≡◌, map, take}
use Rattle.std.specs.List.{All}
use Rattle.c25_move_files.specs.Files.{IsRead, old_of}
use Rattle.c25_move_files.proofs.gathering.sources.Given as goal

abbrev pub invariant-loop-name : goal.invariant-loop-name
invariant-loop-name g l = (map (λ f. (old_of f).name) l.files.items ≡ map (λ n. n.now) (take l.name-index l.names)) × All (λ f. IsRead (g.D.Disk.bytes_of l.old.disk.now) l.old.code_page (old_of f)) l.files.items
