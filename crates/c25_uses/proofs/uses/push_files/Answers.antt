use Rattle.std.proofs.Common.{◌++◌, ap, ◌∙◌, arith}
use Rattle.c25_meaning_expansion.specs.Files.{text_named}
use Rattle.c25_uses.specs.UsedNames.{bytes_of}
use Rattle.c25_uses.specs.Uses.{uses_in_file, uses_in_files}
use Rattle.c25_uses.proofs.Files.{file_more}
use Rattle.c25_uses.proofs.uses.push_files.Goals as goal

pub loop-number-preserved : goal.loop-number-preserved
loop-number-preserved c =
    let files = c.args.files.now in
    let i = c.loop-number.number in
    let before = bytes_of c.loop-number.names.items in
    file_more files i before (bytes_of c.push_file.new.names.items) (bytes_of c.args.names.now.items ++ uses_in_files files)
    (omega (arith, c.loop-number-test.true, c.len-number-end.ensures))
    (c.in_ok-push_file.ensures ∙ ap (λ t. before ++ uses_in_file t) c.text.ensures ∙ ap (λ n. before ++ uses_in_file (text_named files n)) c.name.ensures)
    c.loop-number.invariant
