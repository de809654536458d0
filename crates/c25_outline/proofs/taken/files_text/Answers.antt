use Rattle.std.proofs.Common.{◌++◌, List, ℕ, Option, ap, ◌∙◌, arith}
use Rattle.std.specs.Prelude.{string_bytes}
use Rattle.c25_meaning_expansion.specs.Files.{file_name, text_named}
use Rattle.c25_outline.specs.Taken.{begun_of, file_text, files_text}
use Rattle.c25_outline.proofs.InFiles.{name_more}
use Rattle.c25_outline.proofs.taken.files_text.Goals as goal

pub loop-number-preserved : goal.loop-number-preserved
loop-number-preserved c =
    let files = c.args.files.now in
    let begun = begun_of c.args.begun.now in
    let i = c.loop-number.number in
    let before = string_bytes c.loop-number.shown in
    let name = c.name-file.result.now in
    name_more files (λ n. file_text begun n (text_named files n)) i before (string_bytes c.push_file.new.shown) (files_text files begun)
    (omega (arith, c.loop-number-test.true, c.len-number-end.ensures))
    (c.in_ok-push_file.ensures ∙ ap (λ (t : Option (List ℕ)). before ++ file_text begun name t) c.text.ensures
    ∙ ap (λ n. before ++ file_text begun n (text_named files n)) c.name-file.ensures)
    c.loop-number.invariant
