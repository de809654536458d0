use Rattle.std.proofs.Common.{◌≡◌, ◌-◌, length}
use Rattle.c25_meaning_objects.specs.RecordReading.{read_from}
use Rattle.c25_records.specs.Names.{Keeps}
use Rattle.c25_module.specs.View.{contents}
use Rattle.c25_records.proofs.module_reader.read_records.Given as goal

abbrev pub invariant-loop : goal.invariant-loop
invariant-loop l =
    (read_from (length l.bytes - l.counter) (contents l.reader.parts) l.rest ≡ read_from (length l.bytes) (contents l.fn.reader.parts) l.bytes)
    × Keeps (λ k. k.now) l.reader.names l.reader.file_names l.reader.used (contents l.reader.parts)
