use Rattle.c25_meaning_processor.specs.Arithmetic.{absolute_value}
use Rattle.c25_alu.proofs.addition.take_absolute_value.Goals as goal

pub returns : goal.returns
unfolding absolute_value
returns c = c.keep.ensures _ c.total_absolute-total.ensures
