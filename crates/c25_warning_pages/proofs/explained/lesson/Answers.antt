use Rattle.std.proofs.Common.{◌≡◌, ◌++◌, codes, string_bytes, ◌∙◌}
use Rattle.c25_warning_pages.proofs.Pieces.{seven}
use Rattle.c25_warning_pages.proofs.explained.lesson.Goals as goal

pub returns : goal.returns
returns c =
    let page = c.args.page.now in
    let is : string_bytes c.in_ok-format.field-0 ≡ codes "\n" ++ (page.meaning.now ++ (codes "\n" ++ (page.advice.now ++ (codes "\nExample: c25 explain " ++ (page.name.now ++ codes "\n"))))) = c.in_ok-format.ensures.ok in
    is ∙ seven (codes "\n") page.meaning.now (codes "\n") page.advice.now (codes "\nExample: c25 explain ") page.name.now (codes "\n")
