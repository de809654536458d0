-- How many first words each row has: those from its base on that differ in operands alone.
use Rattle.std.specs.Prelude.{ℕ}
use Rattle.c25_meaning_instructions.specs.declared.mnemonic.ShortName.{ShortName}
use Rattle.c25_meaning_instructions.specs.declared.mnemonic.ShortName.TheVariants as short
use Rattle.c25_meaning_instructions.specs.declared.mnemonic.PlainName.{PlainName}
use Rattle.c25_meaning_instructions.specs.declared.mnemonic.PlainName.TheVariants as plain

-- how many first words a row with a short number has: 2 ^ 8, 2 ^ 9 (LDPK) or 2 ^ 13 (MPYK) numbers, and in
-- LARK 2 ^ 8 for each of eight registers
abbrev pub extent : ShortName → ℕ
extent short.Lark = 2048
extent short.Ldpk = 512
extent short.Mpyk = 8192
extent _ = 256

-- how many first words a plain row has, from its base on up to its last one; NORM's changes are 16 apart, up
-- to 7
abbrev pub plain_extent : PlainName → ℕ
plain_extent plain.Spm = 4
plain_extent plain.Fort = 2
plain_extent plain.Cmpr = 4
plain_extent plain.Norm = 113
plain_extent _ = 1
