use Rattle.std.proofs.Common.{◌≡◌, take}
use Rattle.std.specs.List.{fold}
use Rattle.c25_rom.specs.Checks.{after_byte}
use Rattle.c25_rom.proofs.checks.crc32.Given as goal

abbrev pub invariant-loop-byte : goal.invariant-loop-byte
invariant-loop-byte l = l.remainder ≡ fold after_byte 0xFFFFFFFF (take l.byte-index l.bytes)
