use Rattle.std.proofs.Common.{◌-◌, ap, sym, ◌∙◌, ◌≤◌, subst}
use Rattle.std.specs.Str.Lines.{lines}
use Rattle.c25_meaning_expansion.specs.Rows.{rows_from}
use Rattle.c25_files.proofs.Lines.{before_last, length-rows}
use Rattle.c25_files.proofs.passage.Passage.body.Goals as goal

pub returns : goal.returns
returns c = λ body last e.
    let p = c.self.inside in
    let rows = rows_from p.file (p.line - p.passed) (lines p.begun.now) in
    c.new-2.ensures ∙ before_last rows body last p.passed
    (subst (λ n. p.passed ≤ n) (sym (length-rows p.file (p.line - p.passed) (lines p.begun.now))) c.self.invariant.read)
    (ap (λ q. q.passed) c.self.view_is ∙ e)
