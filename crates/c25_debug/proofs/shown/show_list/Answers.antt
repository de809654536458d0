use Rattle.std.proofs.Common.{◌++◌, ◌∙◌, ℕ, List, sym, ap, subst}
use Rattle.c25_meaning_debugger.specs.Debugger.{source_line_at}
use Rattle.c25_meaning_debugger.specs.Texts.{AreLinesOf, marks_from}
use Rattle.c25_debug.proofs.shown.show_list.Goals as goal

pub returns-clause-text : goal.returns-clause-text
returns-clause-text c =
    let image = c.args.image.now in
    let shown = c.in_ok-push_instructions.ensures in
    subst (λ (text : List ℕ). AreLinesOf image.program (source_line_at image) (marks_from image.marks c.args.address c.args.count) text)
    (sym (c.shown.ensures.text ∙ shown.2 ∙ ap (λ (text : List ℕ). text ++ shown.0) c.new-text.ensures.bytes)) shown.1
