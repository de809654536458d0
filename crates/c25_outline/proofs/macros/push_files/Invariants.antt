-- the macros so far, with those of the files that are left, are those of all
use Rattle.std.proofs.Common.{◌≡◌, ◌++◌, drop, map}
use Rattle.std.specs.List.{flat_map}
use Rattle.c25_meaning_expansion.specs.Files.{text_named}
use Rattle.c25_outline.specs.Macros.{macros_in_file}
use Rattle.c25_outline.proofs.macros.push_files.Given as goal

abbrev pub invariant-loop-number : goal.invariant-loop-number
invariant-loop-number l =
    map (λ n. n.now) l.names.items ++ flat_map (λ f. macros_in_file (text_named l.files f.0)) (drop l.number l.files)
    ≡ map (λ n. n.now) l.initial.names.items ++ flat_map (λ f. macros_in_file (text_named l.files f.0)) l.files
