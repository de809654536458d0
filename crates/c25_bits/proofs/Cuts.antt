-- Numbers cut to a width are below its power of two.
use Rattle.std.proofs.Common.{ℕ, zero, suc, ◌<◌, ◌^◌, ℤ, pos, negsuc, arith}
use Rattle.c25_bits.specs.Cut.{cut}

pow_positive : (n : ℕ) → 0 < 2 ^ n
pow_positive zero = omega arith
pow_positive (suc n) = let h = pow_positive n in omega (arith, h)

pub cut_below : (z : ℤ) (width : ℕ) → cut z width < 2 ^ width
cut_below (pos n) width = omega (arith, pow_positive width)
cut_below (negsuc n) width = omega (arith, pow_positive width)
