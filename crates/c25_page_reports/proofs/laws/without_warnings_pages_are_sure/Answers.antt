use Rattle.c25_page_reports.proofs.Sure.{sure}
use Rattle.c25_page_reports.proofs.laws.without_warnings_pages_are_sure.Goals as goal

pub returns : goal.returns
returns c = sure
