use Rattle.std.proofs.Common.{◌≡◌, ℕ, List, string_bytes, subst}
use Rattle.c25_report.specs.declared.ending.Ending.{Ending}
use Rattle.c25_tasks.specs.Checking.{IsReportBefore, ReportsLines}
use Rattle.c25_tasks.proofs.Warned.{reported_before}
use Rattle.c25_tasks.proofs.checking.report_found.Goals as goal

pub returns : goal.returns
returns c =
    let found = c.args.checked.now in
    let told = c.report_lines-report.result in
    let all = c.with_facts.result in
    let lines = subst (λ (text : List ℕ). ReportsLines text told.ending (string_bytes told.note)) c.as_str.ensures.value c.report_lines-report.ensures in
    let before = subst (λ (facts : List ℕ). IsReportBefore facts (λ (e : Ending) (n : List ℕ). (e ≡ told.ending) × (n ≡ string_bytes told.note)) all.ending (string_bytes all.note)) c.as_str-2.ensures.value c.with_facts.ensures in
    reported_before (string_bytes found.facts) (ReportsLines (string_bytes found.warnings)) told.ending all.ending (string_bytes told.note) (string_bytes all.note) lines before
