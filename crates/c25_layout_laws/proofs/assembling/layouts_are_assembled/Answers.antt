use Rattle.c25_layout_laws.proofs.PartsAssembled.{layout_assembled}
use Rattle.c25_layout_laws.proofs.assembling.layouts_are_assembled.Goals as goal

pub returns : goal.returns
returns c = layout_assembled
