use Rattle.std.proofs.Common.{refl}
use Rattle.c25_pages.proofs.leads.leads_to.Goals as goal

pub returns-in-Some : goal.returns-in-Some
returns-in-Some c = λ yes. (c.in-Some.there, c.in-Some.ensures c.in-Some.there refl, c.implies.ensures yes)
