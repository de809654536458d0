use Rattle.std.proofs.Common.{◌≡◌, ◌++◌, List, ap, subst, ◌∙◌}
use Rattle.std.specs.List.{AllZip}
use Rattle.c25_pages.specs.Program.{statements_of}
use Rattle.c25_pages.specs.declared.table.Row.{Row}
use Rattle.c25_page_reports.specs.Findings.{IsWarningOf, shown_reports}
use Rattle.c25_page_reports.specs.Verdicts.{operand_reports}
use Rattle.c25_page_reports.specs.declared.verdicts.OperandReport.{OperandReport}
use Rattle.c25_page_reports.proofs.Told.{followed_found}
use Rattle.std.specs.String.{string_bytes}
use Rattle.c25_page_reports.proofs.findings.followed.Goals as goal

pub returns : goal.returns
returns c =
    let image = c.args.subject.image.now in
    let program = c.args.subject.program.now in
    let table = c.args.subject.table.now in
    let all = c.args.all in
    let ss = statements_of program in
    let first = c.in_ok-warnings.warnings.items in
    let others = c.in_ok-others.others.items in
    let operands = c.args.operands.now in
    let reports : c.deref-2.result.now ≡ operand_reports ss table.rows.items operands =
    c.deref-2.ensures.value ∙ c.in_ok-reports.ensures ∙ ap (λ (rows : List Row). operand_reports ss rows operands) c.deref.ensures.value in
    followed_found all operands image program table first others c.append.new.self.items (string_bytes c.in_ok-facts.facts) c.requires.statements c.requires.inductive
    (subst (λ (rs : List OperandReport). AllZip (IsWarningOf image) (shown_reports all rs) first) reports c.in_ok-warnings.ensures) c.in_ok-others.ensures.closed c.in_ok-others.ensures.quiet c.in_ok-append.ensures.items c.in_ok-facts.ensures
