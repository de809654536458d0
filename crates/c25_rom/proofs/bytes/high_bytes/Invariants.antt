use Rattle.std.proofs.Common.{◌≡◌, take}
use Rattle.c25_rom.specs.Bytes.{high_bytes}
use Rattle.c25_rom.proofs.bytes.high_bytes.Given as goal

abbrev pub invariant-loop-word : goal.invariant-loop-word
invariant-loop-word l = l.bytes.items ≡ high_bytes (take l.word-index l.words)
