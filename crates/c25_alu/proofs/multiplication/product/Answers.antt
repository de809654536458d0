-- The product of two words with a sign has at most 2 ^ 30.
use Rattle.std.proofs.Common.{◌≡◌, ◌≤◌, ℤ, SFits, to_z, of_z, w16, w32, arith}
use Rattle.std.specs.Prelude.{unsigned_abs}
use Rattle.std.proofs.lemmas.Int.{ints, fits_signed_mul}
use Rattle.c25_alu.proofs.multiplication.product.Goals as goal

small : (z r : ℤ) → SFits w16 z → r ≡ to_z w16 (of_z w16 z) → unsigned_abs (to_z w32 (of_z w32 r)) ≤ 32768
small z r fits is = grind (arith, ints)

pub overflow_mul-product : goal.overflow_mul-product
overflow_mul-product c =
    let a = to_z w32 (of_z w32 c.from.result) in
    let b = to_z w32 (of_z w32 c.from-2.result) in
    fits_signed_mul w32 a b 32768 32768 (small c.args.first c.from.result c.ranges.first c.from.ensures) (small c.args.second c.from-2.result c.ranges.second c.from-2.ensures) (omega arith)
