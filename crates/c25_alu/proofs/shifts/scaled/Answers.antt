use Rattle.std.proofs.Common.{◌≡◌, ℕ, ◌<◌, ◌≤◌, ◌*◌, ◌%◌, ◌^◌, nat_abs, Bool, true, false, arith, ap, ◌∙◌}
use Rattle.c25_bits.specs.Cut.{cut, signed}
use Rattle.c25_meaning_processor.specs.Arithmetic.{scaled, extended}
use Rattle.c25_alu.proofs.Numbers.{cut_signed, scaled_bits}
use Rattle.c25_alu.proofs.shifts.scaled.Goals as goal

word_is_small : (sxm : Bool) (word : ℕ) → word < 2 ^ 16 → nat_abs (extended sxm word) ≤ 65535
word_is_small true word p = grind arith
word_is_small false word p = omega arith

number : (sxm : Bool) (word shift : ℕ) → word < 2 ^ 16 → shift < 16 → signed (cut (extended sxm word) 32 * 2 ^ shift % 2 ^ 32) 32 ≡ scaled sxm word shift
unfolding scaled
number sxm word shift p q = scaled_bits (extended sxm word) shift (word_is_small sxm word p) q

bits : (sxm : Bool) (word shift : ℕ) → word < 2 ^ 16 → shift < 16 → cut (extended sxm word) 32 * 2 ^ shift % 2 ^ 32 ≡ cut (scaled sxm word shift) 32
bits sxm word shift p q =
    cut_signed (cut (extended sxm word) 32 * 2 ^ shift % 2 ^ 32) (omega arith) ∙ ap (λ z. cut z 32) (number sxm word shift p q)

pub returns-clause-number : goal.returns-clause-number
returns-clause-number c = rw c.extend.ensures (number c.args.sxm c.args.word c.args.shift c.ranges.word.fits c.requires)

pub returns-clause-bits : goal.returns-clause-bits
returns-clause-bits c = rw c.extend.ensures (bits c.args.sxm c.args.word c.args.shift c.ranges.word.fits c.requires)
