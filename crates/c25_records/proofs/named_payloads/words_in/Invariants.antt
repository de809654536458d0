use Rattle.std.proofs.Common.{◌≡◌, ◌++◌, length}
use Rattle.std.specs.Option.{option_map}
use Rattle.c25_meaning_objects.specs.RecordReading.{words_in}
use Rattle.c25_records.proofs.named_payloads.words_in.Given as goal

abbrev pub invariant-loop-rest : goal.invariant-loop-rest
invariant-loop-rest l = option_map (λ words. l.words.items ++ words) (words_in l.rest) ≡ words_in l.bytes

abbrev pub decreases-loop-rest : goal.decreases-loop-rest
decreases-loop-rest l = length l.rest
