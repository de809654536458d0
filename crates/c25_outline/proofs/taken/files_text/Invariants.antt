-- the lines of the files so far, with those of the files that are left, are those of all
use Rattle.std.proofs.Common.{◌≡◌, ◌++◌, drop}
use Rattle.std.specs.List.{flat_map}
use Rattle.std.specs.Prelude.{string_bytes}
use Rattle.c25_meaning_expansion.specs.Files.{text_named}
use Rattle.c25_outline.specs.Taken.{begun_of, file_text, files_text}
use Rattle.c25_outline.proofs.taken.files_text.Given as goal

abbrev pub invariant-loop-number : goal.invariant-loop-number
invariant-loop-number l =
    string_bytes l.shown ++ flat_map (λ f. file_text (begun_of l.begun) f.0 (text_named l.files f.0)) (drop l.number l.files)
    ≡ files_text l.files (begun_of l.begun)
