-- Numbers cut to a width in bits, and read again with a sign in two's complement (SPRU014, "Central Arithmetic Logic
-- Unit").
use Rattle.std.specs.Prelude.{ℕ, ◌-◌, ◌%◌, ◌^◌, ℤ, pos, negsuc, nat_lt, if◌then◌else◌, Bool}

-- a number modulo 2 ^ width: its lowest `width` bits in two's complement, never negative
abbrev pub cut : ℤ → ℕ → ℕ
cut (pos n) width = n % 2 ^ width
cut (negsuc n) width = 2 ^ width - 1 - n % 2 ^ width

-- the lowest `width` bits of a number, at least one, read with a sign in two's complement: from - 2 ^ (width
-- - 1) to 2 ^ (width - 1) - 1
abbrev pub signed : ℕ → ℕ → ℤ
signed n width = if nat_lt (n % 2 ^ width) (2 ^ (width - 1)) then pos (n % 2 ^ width) else negsuc (2 ^ width - 1 - n % 2 ^ width)

-- whether a number fits in 32 bits with its sign: it is at least - 2 ^ 31 and below 2 ^ 31
abbrev pub fits32 : ℤ → Bool
fits32 (pos n) = nat_lt n (2 ^ 31)
fits32 (negsuc n) = nat_lt n (2 ^ 31)
