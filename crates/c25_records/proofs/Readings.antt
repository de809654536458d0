-- What a reading of a module says of the bytes.
use Rattle.std.proofs.Common.{◌≡◌, ℕ, List, Result, Ok, Err}
use Rattle.std.specs.Prelude.{IfOk}
use Rattle.c25_meaning_objects.specs.Records.{spelling}
use Rattle.c25_meaning_objects.specs.RecordReading.{module_of}
use Rattle.c25_meaning_common.specs.declared.failure.Failure.{Failure}
use Rattle.c25_meaning_objects.specs.declared.object.ObjectFault.{ObjectFault}
use Rattle.c25_meaning_objects.specs.Module.{Contents}
use Rattle.c25_meaning_common.specs.Results.{Meets}
use Rattle.c25_records.proofs.Taken.{IsBytes}
use Rattle.c25_records.proofs.Found.{module_takes}

pub is_found : (bytes : List ℕ) (r : Result Contents (Failure ObjectFault)) → IsBytes bytes → Meets (λ m. m) (module_of bytes) r → IfOk r (λ m. bytes ≡ spelling m)
is_found bytes (Ok m) small given = (module_takes bytes m small given).0
is_found bytes (Err e) small given = tt
