use Rattle.std.proofs.Common.{◌++◌, ◌∷◌, [], List, ap, string_bytes, ◌∙◌}
use Rattle.c25_page_reports.specs.declared.warning.PageWarning.{PageWarning}
use Rattle.c25_page_reports.proofs.Told.{said_found, unsaid_found}
use Rattle.c25_page_reports.proofs.findings.unfollowed.Goals as goal

pub returns-then-not-all : goal.returns-then-not-all
returns-then-not-all c = λ operands image.
    unsaid_found c.args.all operands image c.args.warning c.new-warnings.result.items (string_bytes c.new-facts.result) c.if-not-all.true c.new-warnings.ensures.items c.new-facts.ensures.bytes

pub returns : goal.returns
returns c = λ operands image.
    said_found c.args.all operands image c.args.warning c.push.new.self.items (string_bytes c.new-facts.result) c.if-not-all.false
    (c.in_ok-push.ensures.items ∙ ap (λ (ws : List PageWarning). ws ++ c.args.warning ∷ []) c.new-warnings.ensures.items) c.new-facts.ensures.bytes
