use Rattle.std.proofs.Common.{◌≡◌, ◌++◌, drop}
use Rattle.std.specs.List.{flat_map}
use Rattle.c25_meaning_expansion.specs.Files.{text_named}
use Rattle.c25_uses.specs.UsedNames.{bytes_of}
use Rattle.c25_uses.specs.Uses.{uses_in_file}
use Rattle.c25_uses.proofs.uses.push_files.Given as goal

abbrev pub invariant-loop-number : goal.invariant-loop-number
invariant-loop-number l =
    bytes_of l.names.items ++ flat_map (λ f. uses_in_file (text_named l.files f.0)) (drop l.number l.files)
    ≡ bytes_of l.initial.names.items ++ flat_map (λ f. uses_in_file (text_named l.files f.0)) l.files
