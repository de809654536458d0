use Rattle.std.proofs.Common.{arith}
use Rattle.c25_module.specs.View.{contents}
use Rattle.c25_records.proofs.Found.{module_takes}
use Rattle.c25_records.proofs.module_reader.made.Goals as goal

pub module-requires : goal.module-requires
module-requires c = (module_takes c.args.bytes.now (contents c.in_ok-parts_of.field-0) (λ i. omega (arith, c.type_inv.bytes i)) c.in_ok-parts_of.ensures).1
