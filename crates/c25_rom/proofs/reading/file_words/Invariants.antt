use Rattle.std.proofs.Common.{◌≡◌, ◌++◌, length}
use Rattle.c25_rom.specs.Bytes.{file_words}
use Rattle.c25_rom.proofs.reading.file_words.Given as goal

abbrev pub invariant-loop-rest : goal.invariant-loop-rest
invariant-loop-rest l = l.words.items ++ file_words l.order l.rest ≡ file_words l.order l.fn.bytes

abbrev pub decreases-loop-rest : goal.decreases-loop-rest
decreases-loop-rest l = length l.rest
