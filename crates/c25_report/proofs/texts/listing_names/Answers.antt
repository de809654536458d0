use Rattle.std.proofs.Common.{rules}
use Rattle.c25_report.proofs.Listings.{names_more}
use Rattle.c25_report.proofs.texts.listing_names.Goals as goal

pub loop-index-preserved : goal.loop-index-preserved
loop-index-preserved c = search (rules, names_more)
