use Rattle.std.proofs.Common.{◌+◌, List, ap, subst, sym, take, ◌∙◌}
use Rattle.std.specs.List.{AllZip}
use Rattle.std.specs.declared.alloc.Global.{Global}
use Rattle.std.specs.declared.vec.Vec.{Vec}
use Rattle.c25_page_reports.specs.Findings.{IsWarningOf, shown_reports}
use Rattle.c25_page_reports.specs.declared.warning.PageWarning.{PageWarning}
use Rattle.c25_page_reports.proofs.Told.{all_told, hidden_told, shown_told}
use Rattle.c25_page_reports.proofs.findings.operand_warnings.Goals as goal
use Rattle.c25_page_reports.proofs.findings.operand_warnings.Goals.{then-is_shown+in_ok-operand_warning+in_ok-push, else-is_shown}

pub loop-report-preserved : goal.loop-report-preserved
loop-report-preserved c =
    let image = c.args.subject.image.now in
    let all = c.args.all in
    let reports = c.args.reports.now in
    let i = c.loop-report.report-index in
    let lt = c.loop-report-test.true in
    let so = c.loop-report.invariant in
    let ws = c.loop-report.warnings.items in
    let told = λ (xs : List PageWarning). AllZip (IsWarningOf image) (shown_reports all (take (i + 1) reports)) xs in
    elim c.if-is_shown.branch [
      | then-is_shown+in_ok-operand_warning+in_ok-push w ↦
          subst told (sym (ap (λ (v : Vec PageWarning Global). v.items) w.warnings-is ∙ w.in_ok-push.ensures.items))
          (shown_told image all reports ws i _ w.in_ok-operand_warning.field-0 lt (sym c.is_shown.ensures ∙ w.if-is_shown.true) so w.in_ok-operand_warning.ensures)
      | else-is_shown w ↦ subst told (sym (ap (λ (v : Vec PageWarning Global). v.items) w.warnings-is)) (hidden_told image all reports ws i _ lt (sym c.is_shown.ensures ∙ w.if-is_shown.false) so)
    ]

pub returns : goal.returns
returns c = all_told c.args.subject.image.now c.args.all c.args.reports.now c.loop-report.warnings.items c.loop-report.report-index c.loop-report-test.false c.loop-report.invariant
