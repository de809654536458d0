-- The two numbers that a programmer of EPROMs shows of a device: the sum of its bytes, and their CRC-32 (IEEE 802.3,
-- "Frame check sequence field", in the form of RFC 1952, section 8, where the bit that is sent first is the lowest:
-- CRC-32/ISO-HDLC).
use Rattle.std.specs.Prelude.{ℕ, zero, suc, ◌/◌, ◌%◌, ◌==◌, bit_xor, List, sum, if◌then◌else◌}
use Rattle.std.specs.List.{fold}

-- the sum of bytes, its low 16 bits
abbrev pub sum_of : List ℕ → ℕ
sum_of bytes = sum bytes % 65536

-- the remainder after one bit more: what is shifted out takes the polynomial away, whose bits stand in reverse
unfoldable pub after_bit : ℕ → ℕ
after_bit remainder = if remainder % 2 == 1 then bit_xor (remainder / 2) 0xEDB88320 else remainder / 2

-- the remainder after so many bits more
abbrev pub after_bits : (count : ℕ) → ℕ → ℕ
after_bits zero remainder = remainder
after_bits (suc n) remainder = after_bit (after_bits n remainder)

-- the remainder after a byte
unfoldable pub after_byte : ℕ → ℕ → ℕ
after_byte remainder byte = after_bits 8 (bit_xor remainder byte)

-- the CRC-32 of bytes
unfoldable pub crc32 : List ℕ → ℕ
crc32 bytes = bit_xor (fold after_byte 0xFFFFFFFF bytes) 0xFFFFFFFF
