-- The sums, shifts, halves and conditions of the second formulation are those of the first.
use Rattle.std.proofs.Common.{◌≡◌, ℕ, ◌+◌, ◌-◌, ◌*◌, ◌/◌, ◌%◌, ◌^◌, ◌<◌, ℤ, pos, negsuc, Bool, true, false, refl, ap, sym, cond, zero-add, arith}
use Rattle.std.specs.Prelude.{◌+ℤ◌, ◌-ℤ◌, ◌*ℤ◌, int_lt, int_le, nat_lt, nat_le, nat_eq, not, ◌&&◌, ◌||◌, bit_and, bit_or, bit_xor}
use Rattle.std.proofs.lemmas.Int.{ints}
use Rattle.std.proofs.lemmas.Bool.Decides.{nat_tests}
use Rattle.std.specs.Int.{int_shr}
use Rattle.std.specs.Int.Bits.{xor_zero_r, or_zero_r, and_zero_r}
use Rattle.std.proofs.lemmas.Nat.{xor_block, or_block, and_block}
use Rattle.c25_bits.specs.Cut.{cut, signed, fits32}
use Rattle.c25_meaning_processor.specs.declared.accumulator.Acc.{Acc}
use Rattle.c25_meaning_processor.specs.declared.accumulator.ProductShift.{ProductShift}
use Rattle.c25_meaning_processor.specs.declared.accumulator.ProductShift.TheVariants as shift
use Rattle.c25_meaning_processor.specs.Arithmetic.{sum, difference, shifted_product, is_negative, conditional_difference}
use Rattle.c25_meaning_instructions.specs.declared.mnemonic.JumpName.TheVariants as jump
use Rattle.c25_meaning_processor.specs.Effect.{branch, jump_effect}
use Rattle.c25_meaning_processor.specs.declared.registers.Registers.{Registers}
use Rattle.c25_guide.specs.Sums.{with_sign_16, with_sign_32, low_32, holds, kept, added, subtracted, divided, through_shifter, high_half, low_half}

-- ---- numbers with a sign

low_32_is : (z : ℤ) → low_32 z ≡ cut z 32
unfolding low_32
low_32_is (pos n) = refl
low_32_is (negsuc n) = omega arith

below_16 : (x : ℕ) → x < 65536 → pos x -ℤ pos 65536 ≡ negsuc (65535 - x)
below_16 x h = omega (arith, ints)

below_32 : (x : ℕ) → x < 2 ^ 32 → pos x -ℤ pos (2 ^ 32) ≡ negsuc (2 ^ 32 - 1 - x)
below_32 x h = omega (arith, ints)

pub with_sign_16_is : (n : ℕ) → with_sign_16 n ≡ signed n 16
unfolding with_sign_16
with_sign_16_is n = ap (λ (z : ℤ). cond (nat_lt (n % 2 ^ 16) (2 ^ 15)) (pos (n % 2 ^ 16)) z) (below_16 (n % 2 ^ 16) (omega arith))

pub with_sign_32_is : (n : ℕ) → with_sign_32 n ≡ signed n 32
unfolding with_sign_32
with_sign_32_is n = ap (λ (z : ℤ). cond (nat_lt (n % 2 ^ 32) (2 ^ 31)) (pos (n % 2 ^ 32)) z) (below_32 (n % 2 ^ 32) (omega arith))

-- ---- sums and differences

holds_is : (z : ℤ) → holds z ≡ fits32 z
holds_is (pos n) = refl
holds_is (negsuc n) = grind (arith, nat_tests)

negative_is : (z : ℤ) → int_lt z (pos 0) ≡ is_negative z
negative_is (pos n) = grind (arith, nat_tests)
negative_is (negsuc n) = refl

kept_is : (z : ℤ) (ovm : Bool) → kept z ovm ≡ cond (fits32 z) (cut z 32) (cond ovm (cond (is_negative z) 0x80000000 0x7FFFFFFF) (cut z 32))
unfolding kept
kept_is z ovm = rw (holds_is z, negative_is z, low_32_is z)

carried : (n : ℕ) → nat_lt 0 (n / 2 ^ 32) ≡ nat_le (2 ^ 32) n
carried n = grind (arith, nat_tests)

not_lent : (a b : ℕ) → not (nat_lt a b) ≡ nat_le b a
not_lent a b = grind (arith, nat_tests)

sticky : (b ov : Bool) → ov || not b ≡ cond b ov true
sticky true true = refl
sticky true false = refl
sticky false true = refl
sticky false false = refl

acc_is : (value value2 : ℕ) (ov ov2 c c2 : Bool) → value ≡ value2 → ov ≡ ov2 → c ≡ c2 → ◌≡◌ {A = Acc} (record { value = value; ov = ov; c = c }) (record { value = value2; ov = ov2; c = c2 })
acc_is value value2 ov ov2 c c2 p q s = cc

pub added_is : (a : Acc) (v : ℤ) (ovm : Bool) → added a v ovm ≡ sum a v ovm
unfolding added sum
added_is a v ovm =
    rw (with_sign_32_is a.value, low_32_is v, holds_is (signed a.value 32 +ℤ v))
    (acc_is _ _ _ _ _ _ (kept_is (signed a.value 32 +ℤ v) ovm) (sticky (fits32 (signed a.value 32 +ℤ v)) a.ov) (carried (a.value + cut v 32)))

pub subtracted_is : (a : Acc) (v : ℤ) (ovm : Bool) → subtracted a v ovm ≡ difference a v ovm
unfolding subtracted difference
subtracted_is a v ovm =
    rw (with_sign_32_is a.value, low_32_is v, holds_is (signed a.value 32 -ℤ v))
    (acc_is _ _ _ _ _ _ (kept_is (signed a.value 32 -ℤ v) ovm) (sticky (fits32 (signed a.value 32 -ℤ v)) a.ov) (not_lent a.value (cut v 32)))

-- ---- SUBC

whole : (n : ℕ) → n < 2 ^ 32 → n % 2 ^ 32 ≡ n
whole n h = omega arith

twice_plus : (x : ℤ) → (x +ℤ x) +ℤ pos 1 ≡ (pos 2 *ℤ x) +ℤ pos 1
twice_plus x = omega (arith, ints)

twice_negative : (n : ℕ) → pos 2 *ℤ negsuc n ≡ negsuc (2 * n + 1)
twice_negative n = omega (arith, ints)

doubled : (b : Bool) (x : ℕ) → x < 2 ^ 32 → x * 2 % 2 ^ 32 ≡ cut (pos 2 *ℤ cond b (pos x) (negsuc (2 ^ 32 - 1 - x))) 32
doubled true x h = omega arith
doubled false x h = rw (twice_negative (2 ^ 32 - 1 - x)) (omega arith)

doubled_acc : (n : ℕ) → n < 2 ^ 32 → n * 2 % 2 ^ 32 ≡ cut (pos 2 *ℤ signed n 32) 32
doubled_acc n h = rw (whole n h) (doubled (nat_lt n (2 ^ 31)) n h)

pub divided_is : (a : Acc) (x : ℤ) → a.value < 2 ^ 32 → divided a x ≡ conditional_difference a x
unfolding divided conditional_difference
divided_is a x h =
    rw (with_sign_32_is a.value, low_32_is x, holds_is (signed a.value 32 -ℤ x), negative_is (signed a.value 32 -ℤ x), doubled_acc a.value h, twice_plus (signed a.value 32 -ℤ x), low_32_is ((pos 2 *ℤ (signed a.value 32 -ℤ x)) +ℤ pos 1))
    (acc_is _ _ _ _ _ _ refl (sticky (fits32 (signed a.value 32 -ℤ x)) a.ov) (not_lent a.value (cut x 32)))

-- ---- the shifter

right_six : (b : Bool) (x : ℕ) → x < 2 ^ 32 → cond b (x / 64) (x / 64 + (2 ^ 32 - 2 ^ 26)) ≡ cut (int_shr (cond b (pos x) (negsuc (2 ^ 32 - 1 - x))) 6) 32
right_six true x h = omega arith
right_six false x h = omega arith

pub through_shifter_is : (p : ℕ) (pm : ProductShift) → through_shifter p pm ≡ shifted_product p pm
unfolding through_shifter shifted_product
through_shifter_is p shift.None = refl
through_shifter_is p shift.Left1 = refl
through_shifter_is p shift.Left4 = refl
through_shifter_is p shift.Right6 = right_six (nat_lt (p % 2 ^ 32) (2 ^ 31)) (p % 2 ^ 32) (omega arith)

-- ---- halves of ACC

split : (a : ℕ) → a / 65536 * 65536 + a % 65536 ≡ a
split a = omega arith

pub xor_halves : (acc m : ℕ) → m < 2 ^ 16 → high_half acc + bit_xor (low_half acc) m ≡ bit_xor acc m
xor_halves a m h = sym (rw (split a, zero-add m, xor_zero_r (a / 65536)) at (xor_block 16 (a / 65536) 0 (a % 65536) m (omega arith) h))

pub or_halves : (acc m : ℕ) → m < 2 ^ 16 → high_half acc + bit_or (low_half acc) m ≡ bit_or acc m
or_halves a m h = sym (rw (split a, zero-add m, or_zero_r (a / 65536)) at (or_block 16 (a / 65536) 0 (a % 65536) m (omega arith) h))

pub and_halves : (acc m : ℕ) → m < 2 ^ 16 → bit_and (low_half acc) m ≡ bit_and acc m
and_halves a m h = sym (rw (split a, zero-add m, and_zero_r (a / 65536), zero-add (bit_and (a % 65536) m)) at (and_block 16 (a / 65536) 0 (a % 65536) m (omega arith) h))

-- ---- the conditions of jumps

negative : (n : ℕ) → n < 2 ^ 32 → int_lt (with_sign_32 n) (pos 0) ≡ nat_le (2 ^ 31) n
negative n h = rw (with_sign_32_is n, whole n h) (grind (arith, nat_tests))

not_negative : (n : ℕ) → n < 2 ^ 32 → int_le (pos 0) (with_sign_32 n) ≡ nat_lt n (2 ^ 31)
not_negative n h = rw (with_sign_32_is n, whole n h) (grind (arith, nat_tests))

positive : (n : ℕ) → n < 2 ^ 32 → int_lt (pos 0) (with_sign_32 n) ≡ nat_lt n (2 ^ 31) && not (nat_eq n 0)
positive n h = rw (with_sign_32_is n, whole n h) (grind (arith, nat_tests))

not_positive : (n : ℕ) → n < 2 ^ 32 → int_le (with_sign_32 n) (pos 0) ≡ nat_le (2 ^ 31) n || nat_eq n 0
not_positive n h = rw (with_sign_32_is n, whole n h) (grind (arith, nat_tests))

pub less : (target : ℕ) (bio : Bool) (r : Registers) → r.acc.value < 2 ^ 32 → jump_effect jump.Blz target bio r ≡ branch (int_lt (with_sign_32 r.acc.value) (pos 0)) target r
less target bio r h = ap (λ (holds : Bool). branch holds target r) (sym (negative r.acc.value h))

pub less_or_equal : (target : ℕ) (bio : Bool) (r : Registers) → r.acc.value < 2 ^ 32 → jump_effect jump.Blez target bio r ≡ branch (int_le (with_sign_32 r.acc.value) (pos 0)) target r
less_or_equal target bio r h = ap (λ (holds : Bool). branch holds target r) (sym (not_positive r.acc.value h))

pub greater : (target : ℕ) (bio : Bool) (r : Registers) → r.acc.value < 2 ^ 32 → jump_effect jump.Bgz target bio r ≡ branch (int_lt (pos 0) (with_sign_32 r.acc.value)) target r
greater target bio r h = ap (λ (holds : Bool). branch holds target r) (sym (positive r.acc.value h))

pub greater_or_equal : (target : ℕ) (bio : Bool) (r : Registers) → r.acc.value < 2 ^ 32 → jump_effect jump.Bgez target bio r ≡ branch (int_le (pos 0) (with_sign_32 r.acc.value)) target r
greater_or_equal target bio r h = ap (λ (holds : Bool). branch holds target r) (sym (not_negative r.acc.value h))
