use Rattle.std.proofs.Common.{◌≡◌, true, false, ap, sym, ◌∙◌}
use Rattle.std.specs.List.{list_any}
use Rattle.c25_line_warnings.specs.View.{line_of}
use Rattle.c25_warnings.specs.View.{warning_of}
use Rattle.c25_warnings.specs.Warnings.{at_line, same, with_new}
use Rattle.c25_warnings.specs.declared.warning.Warning.{Warning}
use Rattle.c25_warnings.proofs.Reported.{added, kept, named}
use Rattle.c25_warnings.proofs.reports.Reports.add.Goals as goal

pub returns-in_ok-push : goal.returns-in_ok-push
returns-in_ok-push c =
    let l = line_of c.args.line.now in
    let kind = c.args.kind in
    let ws = c.self.inside.warnings.items in
    let w : Warning = record { kind = kind; file = c.args.line.now.file; line = c.args.line.now.line; text = c.in_ok-text.text; name = c.in_ok-name.name } in
    let none : list_any (λ v. same (warning_of w) (warning_of v)) ws ≡ false =
    ap (list_any (λ v. same (warning_of w) (warning_of v))) (sym c.as_slice.ensures.value) ∙ sym c.has_same.ensures ∙ c.if-not-has_same.true in
    let is : warning_of w ≡ at_line l kind c.args.name.now = named l kind _ _ _ (c.in_ok-text.ensures.ok ∙ c.as_str.ensures.value) c.in_ok-name.ensures.ok in
    added ws c.push.new.self.items w none c.in_ok-push.ensures.items ∙ ap (λ seen. with_new seen (warning_of w)) c.self.view_is ∙ ap (with_new c.args.self.now) is

pub returns-else-not-has_same : goal.returns-else-not-has_same
returns-else-not-has_same c =
    let l = line_of c.args.line.now in
    let kind = c.args.kind in
    let ws = c.self.inside.warnings.items in
    let w : Warning = record { kind = kind; file = c.args.line.now.file; line = c.args.line.now.line; text = c.in_ok-text.text; name = c.in_ok-name.name } in
    let some : list_any (λ v. same (warning_of w) (warning_of v)) ws ≡ true =
    ap (list_any (λ v. same (warning_of w) (warning_of v))) (sym c.as_slice.ensures.value) ∙ sym c.has_same.ensures ∙ c.if-not-has_same.false in
    let is : warning_of w ≡ at_line l kind c.args.name.now = named l kind _ _ _ (c.in_ok-text.ensures.ok ∙ c.as_str.ensures.value) c.in_ok-name.ensures.ok in
    sym c.self.view_is ∙ kept ws w some ∙ ap (λ seen. with_new seen (warning_of w)) c.self.view_is ∙ ap (with_new c.args.self.now) is
