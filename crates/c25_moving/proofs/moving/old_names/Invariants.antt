-- the names so far, with those that are left, are all
use Rattle.std.proofs.Common.{◌≡◌, ◌++◌, drop, map}
use Rattle.c25_move_files.specs.Files.{old_of}
use Rattle.c25_moving.proofs.moving.old_names.Given as goal

abbrev pub invariant-loop-file : goal.invariant-loop-file
invariant-loop-file l = map (λ n. n.now) l.names.items ++ map (λ f. f.name) (map old_of (drop l.file-index l.gathered.files.items)) ≡ map (λ f. f.name) (map old_of l.gathered.files.items)
