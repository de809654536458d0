-- the names so far, with those of the files that are left, are all
use Rattle.std.proofs.Common.{◌≡◌, ◌++◌, drop, map, string_bytes}
use Rattle.c25_move_files.proofs.texts.names_of.Given as goal

abbrev pub invariant-loop-file : goal.invariant-loop-file
invariant-loop-file l = map string_bytes l.names.items ++ map (λ f. string_bytes f.name) (drop l.file-index l.files) ≡ map (λ f. string_bytes f.name) l.files
