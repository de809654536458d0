use Rattle.c25_layout_laws.proofs.PartsLinked.{layout_linked}
use Rattle.c25_layout_laws.proofs.assembling.layouts_are_linked.Goals as goal

pub returns : goal.returns
returns c = layout_linked
