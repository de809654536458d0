use Rattle.std.proofs.Common.{ap, subst, ◌∙◌, arith}
use Rattle.c25_meaning_objects.specs.RecordReading.{module_of}
use Rattle.c25_meaning_common.specs.Results.{Meets}
use Rattle.c25_records.proofs.Readings.{is_found}
use Rattle.c25_records.proofs.Again.{spelling_read}
use Rattle.c25_records.proofs.module_reader.read_module.Goals as goal

pub returns-clause-found : goal.returns-clause-found
returns-clause-found c = is_found c.args.bytes.now c.made.result (λ i. omega (arith, c.type_inv.bytes i)) c.made.ensures

pub returns-clause-only : goal.returns-clause-only
returns-clause-only c = λ d sized spelled e. subst (λ f. Meets (λ m. m) f c.made.result) (ap module_of e ∙ spelling_read d sized spelled) c.made.ensures
