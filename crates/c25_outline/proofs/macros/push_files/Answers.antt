use Rattle.std.proofs.Common.{◌++◌, map, ap, ◌∙◌, arith}
use Rattle.c25_meaning_expansion.specs.Files.{text_named}
use Rattle.c25_outline.specs.Macros.{macros_in_file, macros_in_files}
use Rattle.c25_outline.proofs.Files.{file_more}
use Rattle.c25_outline.proofs.macros.push_files.Goals as goal

pub loop-number-preserved : goal.loop-number-preserved
loop-number-preserved c =
    let files = c.args.files.now in
    let i = c.loop-number.number in
    let before = map (λ n. n.now) c.loop-number.names.items in
    file_more files i before (map (λ n. n.now) c.push_file.new.names.items) (map (λ n. n.now) c.args.names.now.items ++ macros_in_files files)
    (omega (arith, c.loop-number-test.true, c.len-number-end.ensures))
    (c.in_ok-push_file.ensures ∙ ap (λ t. before ++ macros_in_file t) c.text.ensures ∙ ap (λ n. before ++ macros_in_file (text_named files n)) c.name.ensures)
    c.loop-number.invariant
