use Rattle.std.proofs.Common.{◌≡◌, take}
use Rattle.c25_rom.specs.Bytes.{file_bytes}
use Rattle.c25_rom.proofs.bytes.file_bytes.Given as goal

abbrev pub invariant-loop-word : goal.invariant-loop-word
invariant-loop-word l = l.bytes.items ≡ file_bytes l.order (take l.word-index l.words)
