use Rattle.c25_page_reports.proofs.findings.findings_by.Goals as goal

pub returns-in_ok-warning-in-Err : goal.returns-in_ok-warning-in-Err
returns-in_ok-warning-in-Err c = c.unfollowed.ensures c.args.operands.now c.args.subject.image.now
