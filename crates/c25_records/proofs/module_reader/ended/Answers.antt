use Rattle.std.proofs.Common.{arith}
use Rattle.std.proofs.lemmas.Grind.{common_steps}
use Rattle.c25_meaning_objects.specs.RecordReading.{ended}
use Rattle.c25_records.proofs.module_reader.ended.Goals as goal

pub returns : goal.returns
unfolding ended
returns c = grind (arith, common_steps)
