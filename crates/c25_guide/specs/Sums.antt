-- The data path a second time, by other formulas: signs by subtraction of a power of 2, limits by comparison, C as the bit
-- that is carried out or borrowed (SPRU014, "Central Arithmetic Logic Unit").
use Rattle.std.specs.Prelude.{ℕ, ◌+◌, ◌-◌, ◌*◌, ◌/◌, ◌%◌, ◌^◌, ℤ, pos, negsuc, ◌+ℤ◌, ◌-ℤ◌, int_lt, int_le, nat_lt, Bool, not, ◌&&◌, ◌||◌, if◌then◌else◌}
use Rattle.c25_meaning_processor.specs.declared.accumulator.Acc.{Acc}
use Rattle.c25_meaning_processor.specs.declared.accumulator.ProductShift.{ProductShift}
use Rattle.c25_meaning_processor.specs.declared.accumulator.ProductShift.TheVariants as shift

-- a word as a number with its sign: from 2 ^ 15 on, 2 ^ 16 less
unfoldable pub with_sign_16 : ℕ → ℤ
with_sign_16 n = if nat_lt (n % 2 ^ 16) (2 ^ 15) then pos (n % 2 ^ 16) else pos (n % 2 ^ 16) -ℤ pos (2 ^ 16)

-- 32 bits as a number with their sign: from 2 ^ 31 on, 2 ^ 32 less
unfoldable pub with_sign_32 : ℕ → ℤ
with_sign_32 n = if nat_lt (n % 2 ^ 32) (2 ^ 31) then pos (n % 2 ^ 32) else pos (n % 2 ^ 32) -ℤ pos (2 ^ 32)

-- the low 32 bits of a number
unfoldable pub low_32 : ℤ → ℕ
low_32 (pos n) = n % 2 ^ 32
low_32 (negsuc n) = 2 ^ 32 - (n % 2 ^ 32 + 1)

-- whether 32 bits with a sign hold a number
abbrev pub holds : ℤ → Bool
holds total = int_le (negsuc (2 ^ 31 - 1)) total && int_lt total (pos (2 ^ 31))

-- a total as ACC keeps it: where ACC does not hold it, under OVM the largest or the smallest number that it holds
unfoldable pub kept : ℤ → Bool → ℕ
kept total ovm =
    if holds total then low_32 total
    else (if ovm then (if int_lt total (pos 0) then 2 ^ 31 else 2 ^ 31 - 1) else low_32 total)

-- (ACC) + v: OV is set where ACC does not hold the total; C is the bit that is carried out of the 32
unfoldable pub added : Acc → ℤ → Bool → Acc
added acc v ovm =
    let total = with_sign_32 acc.value +ℤ v in
    record { value = kept total ovm; ov = acc.ov || not (holds total); c = nat_lt 0 ((acc.value + low_32 v) / 2 ^ 32) }

-- (ACC) - v: C is 0 where a bit is borrowed
unfoldable pub subtracted : Acc → ℤ → Bool → Acc
subtracted acc v ovm =
    let total = with_sign_32 acc.value -ℤ v in
    record { value = kept total ovm; ov = acc.ov || not (holds total); c = not (nat_lt acc.value (low_32 v)) }

-- SUBC, a step of a division by v: a difference that is not negative is doubled with 1 added, else ACC is doubled
unfoldable pub divided : Acc → ℤ → Acc
divided acc v =
    let rest = with_sign_32 acc.value -ℤ v in
    record {
      value = if int_lt rest (pos 0) then acc.value * 2 % 2 ^ 32 else low_32 ((rest +ℤ rest) +ℤ pos 1);
      ov = acc.ov || not (holds rest);
      c = not (nat_lt acc.value (low_32 v));
    }

-- P after its shifter; the shift to the right by 6 brings in six bits of the sign
unfoldable pub through_shifter : ℕ → ProductShift → ℕ
through_shifter p shift.None = p
through_shifter p shift.Left1 = p * 2 % 2 ^ 32
through_shifter p shift.Left4 = p * 16 % 2 ^ 32
through_shifter p shift.Right6 = if nat_lt (p % 2 ^ 32) (2 ^ 31) then p % 2 ^ 32 / 64 else p % 2 ^ 32 / 64 + (2 ^ 32 - 2 ^ 26)

-- bits 31-16 of ACC at their place, and its bits 15-0
abbrev pub high_half : ℕ → ℕ
high_half acc = acc / 2 ^ 16 * 2 ^ 16

abbrev pub low_half : ℕ → ℕ
low_half acc = acc % 2 ^ 16
