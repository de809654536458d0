use Rattle.std.proofs.Common.{Bool, ap}
use Rattle.c25_check.specs.declared.showing.Paging.{Paging}
use Rattle.c25_check.specs.declared.showing.Showing.{Showing}
use Rattle.c25_check.proofs.showing.showing_for.Goals as goal

abbrev with_fronts : (explain : Bool) → Paging → (fronted : Bool) → Showing
with_fronts explain paging fronted = record { explain = explain; paging = paging; fronted = fronted }

pub returns : goal.returns
returns c = ap (with_fronts c.args.explain c.args.paging) c.is_fronted-fronted.ensures
