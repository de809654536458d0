use Rattle.std.proofs.Common.{List, map, string_bytes, subst, sym, ◌∙◌}
use Rattle.c25_check.specs.Checking.{HasPageWarnings}
use Rattle.c25_page_reports.specs.Findings.{ArePageFindings, places_in}
use Rattle.c25_page_reports.specs.Operands.{page_operands}
use Rattle.c25_page_reports.specs.declared.operands.AbsoluteOperand.{AbsoluteOperand}
use Rattle.c25_page_reports.specs.declared.warning.PageWarning.{PageWarning}
use Rattle.c25_check.proofs.check.pages_found.Goals as goal

pub returns : goal.returns
returns c = λ command program.
    let modules = c.args.program.modules.now in
    let image = c.args.program.linked.now.image in
    let warnings = c.in_ok-found.field-0.warnings.items in
    let facts = string_bytes c.in_ok-found.field-0.facts in
    let same = c.as_slice.ensures.value ∙ c.in_ok-absolutes.ensures in
    record {
      warnings = warnings;
      shown = subst (λ (ws : List PageWarning). HasPageWarnings c.args.explain ws (string_bytes c.in_ok-warnings.warnings)) c.as_slice-2.ensures.value c.in_ok-warnings.ensures;
      found = subst (λ (os : List AbsoluteOperand). ArePageFindings c.args.all (page_operands os modules (places_in image)) image warnings facts) same (c.in_ok-found.ensures command program);
    }
