use Rattle.std.proofs.Common.{◌≡◌, ◌++◌, codes, string_bytes, ◌∙◌}
use Rattle.c25_warning_pages.proofs.Pieces.{four}
use Rattle.c25_warning_pages.proofs.summaries.summary_line.Goals as goal

pub returns : goal.returns
returns c =
    let page = c.args.page.now in
    let is : string_bytes c.in_ok-format.field-0 ≡ page.name.now ++ (codes ": " ++ (page.summary.now ++ codes "\n")) = c.in_ok-format.ensures.ok in
    is ∙ four page.name.now (codes ": ") page.summary.now (codes "\n")
