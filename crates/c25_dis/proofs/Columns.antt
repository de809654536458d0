-- Columns of a line.
use Rattle.std.proofs.Common.{◌≡◌, ℕ, ◌/◌, ◌%◌, refl, arith}
use Rattle.c25_meaning_common.specs.Digits.{four_digits}

-- the digits of a number are those of its low sixteen bits
pub low_digits : (n : ℕ) → four_digits (n % 65536) ≡ four_digits n
low_digits n =
    let a : n % 65536 / 256 / 16 % 16 ≡ n / 256 / 16 % 16 = omega arith in
    let b : n % 65536 / 256 % 16 ≡ n / 256 % 16 = omega arith in
    let c : n % 65536 / 16 % 16 ≡ n / 16 % 16 = omega arith in
    let d : n % 65536 % 16 ≡ n % 16 = omega arith in
    rw (a, b, c, d) refl
