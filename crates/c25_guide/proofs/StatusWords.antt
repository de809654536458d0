-- The status words as signs are those of the first formulation.
use Rattle.std.proofs.Common.{◌≡◌, ℕ, ◌+◌, ◌*◌, ◌/◌, ◌%◌, ◌^◌, ◌<◌, pos, Bool, true, false, [], ◌∷◌, refl, cond, arith}
use Rattle.std.specs.Prelude.{codes}
use Rattle.c25_meaning_processor.specs.declared.accumulator.ProductShift.{ProductShift}
use Rattle.c25_meaning_processor.specs.declared.accumulator.ProductShift.TheVariants as shift
use Rattle.c25_meaning_processor.specs.Arithmetic.{shift_number}
use Rattle.c25_meaning_processor.specs.declared.registers.Registers.{Registers}
use Rattle.c25_meaning_processor.specs.Status.{st0, st1, with_st0, with_st1}
use Rattle.c25_guide.specs.Patterns.{field, value}
use Rattle.c25_guide.specs.StatusWords.{st0_signs, st1_signs, number_at, in_st0, in_st1, st0_fields, st1_fields, pm_number, loaded_st0, loaded_st1}
use Rattle.c25_guide.proofs.Values.{two_digits, three_digits, nine_digits}

one_below : (b : Bool) → cond b 1 0 < 2
one_below true = omega arith
one_below false = omega arith

pm_below : (pm : ProductShift) → pm_number pm < 4
pm_below shift.None = omega arith
pm_below _ = omega arith

pm_is : (pm : ProductShift) → pm_number pm ≡ shift_number pm
pm_is shift.None = refl
pm_is _ = refl

-- ---- stores

st0_numbers : (a v m i d : ℕ) → a < 8 → v < 2 → m < 2 → i < 2 → d < 512 →
    value (field (codes "a") (pos a) ∷ field (codes "v") (pos v) ∷ field (codes "m") (pos m) ∷ field (codes "i") (pos i) ∷ field (codes "d") (pos d) ∷ []) st0_signs ≡ a * 2 ^ 13 + v * 2 ^ 12 + m * 2 ^ 11 + 2 ^ 10 + i * 2 ^ 9 + d
st0_numbers a v m i d pa pv pm pi pd = let x = three_digits a pa in let y = nine_digits d pd in omega arith

pub st0_is : (r : Registers) → r.arp < 8 → r.dp < 512 → value (st0_fields r) st0_signs ≡ st0 r
unfolding st0
st0_is r p q = st0_numbers r.arp (cond r.acc.ov 1 0) (cond r.ovm 1 0) (cond r.intm 1 0) r.dp p (one_below r.acc.ov) (one_below r.ovm) (one_below r.intm) q

st1_numbers : (b n t s c h f x o y p : ℕ) → b < 8 → n < 2 → t < 2 → s < 2 → c < 2 → h < 2 → f < 2 → x < 2 → o < 2 → y < 2 → p < 4 →
    value (field (codes "b") (pos b) ∷ field (codes "n") (pos n) ∷ field (codes "t") (pos t) ∷ field (codes "s") (pos s)
    ∷ field (codes "c") (pos c) ∷ field (codes "h") (pos h) ∷ field (codes "f") (pos f) ∷ field (codes "x") (pos x)
    ∷ field (codes "o") (pos o) ∷ field (codes "y") (pos y) ∷ field (codes "p") (pos p) ∷ []) st1_signs
    ≡ b * 2 ^ 13 + n * 2 ^ 12 + t * 2 ^ 11 + s * 2 ^ 10 + c * 2 ^ 9 + 2 ^ 8 + 2 ^ 7 + h * 2 ^ 6 + f * 2 ^ 5 + x * 2 ^ 4 + o * 2 ^ 3 + y * 2 ^ 2 + p
st1_numbers b n t s c h f x o y p pb pn pt ps pc ph pf px po py pp = let u = three_digits b pb in let v = two_digits p pp in omega arith

pub st1_is : (r : Registers) → r.arb < 8 → value (st1_fields r) st1_signs ≡ st1 r
unfolding st1
st1_is r p =
    rw (← pm_is r.pm)
    (st1_numbers r.arb (cond r.cnf 1 0) (cond r.tc 1 0) (cond r.sxm 1 0) (cond r.acc.c 1 0) (cond r.hm 1 0) (cond r.fsm 1 0) (cond r.xf 1 0) (cond r.fo 1 0) (cond r.txm 1 0) (pm_number r.pm)
    p (one_below r.cnf) (one_below r.tc) (one_below r.sxm) (one_below r.acc.c) (one_below r.hm) (one_below r.fsm) (one_below r.xf) (one_below r.fo) (one_below r.txm) (pm_below r.pm))

-- ---- loads

st0_a : (m : ℕ) → m < 2 ^ 16 → in_st0 (codes "a") m ≡ m / 2 ^ 13
unfolding number_at
st0_a m h = omega arith

st0_v : (m : ℕ) → in_st0 (codes "v") m ≡ m / 2 ^ 12 % 2
unfolding number_at
st0_v m = omega arith

st0_m : (m : ℕ) → in_st0 (codes "m") m ≡ m / 2 ^ 11 % 2
unfolding number_at
st0_m m = omega arith

st0_d : (m : ℕ) → in_st0 (codes "d") m ≡ m % 2 ^ 9
unfolding number_at
st0_d m = omega arith

st1_b : (m : ℕ) → m < 2 ^ 16 → in_st1 (codes "b") m ≡ m / 2 ^ 13
unfolding number_at
st1_b m h = omega arith

st1_p : (m : ℕ) → in_st1 (codes "p") m ≡ m % 4
unfolding number_at
st1_p m = omega arith

st1_n : (m : ℕ) → in_st1 (codes "n") m ≡ m / 2 ^ 12 % 2
unfolding number_at
st1_n m = omega arith

st1_t : (m : ℕ) → in_st1 (codes "t") m ≡ m / 2 ^ 11 % 2
unfolding number_at
st1_t m = omega arith

st1_s : (m : ℕ) → in_st1 (codes "s") m ≡ m / 2 ^ 10 % 2
unfolding number_at
st1_s m = omega arith

st1_c : (m : ℕ) → in_st1 (codes "c") m ≡ m / 2 ^ 9 % 2
unfolding number_at
st1_c m = omega arith

st1_h : (m : ℕ) → in_st1 (codes "h") m ≡ m / 2 ^ 6 % 2
unfolding number_at
st1_h m = omega arith

st1_f : (m : ℕ) → in_st1 (codes "f") m ≡ m / 2 ^ 5 % 2
unfolding number_at
st1_f m = omega arith

st1_x : (m : ℕ) → in_st1 (codes "x") m ≡ m / 2 ^ 4 % 2
unfolding number_at
st1_x m = omega arith

st1_o : (m : ℕ) → in_st1 (codes "o") m ≡ m / 2 ^ 3 % 2
unfolding number_at
st1_o m = omega arith

st1_y : (m : ℕ) → in_st1 (codes "y") m ≡ m / 2 ^ 2 % 2
unfolding number_at
st1_y m = omega arith

pub loaded_st0_is : (word : ℕ) (r : Registers) → word < 2 ^ 16 → loaded_st0 word r ≡ with_st0 word r
loaded_st0_is word r h = rw (st0_a word h, st0_v word, st0_m word, st0_d word)

pub loaded_st1_is : (word : ℕ) (r : Registers) → word < 2 ^ 16 → loaded_st1 word r ≡ with_st1 word r
loaded_st1_is word r h =
    rw (st1_b word h, st1_n word, st1_t word, st1_s word, st1_c word, st1_h word, st1_f word, st1_x word, st1_o word, st1_y word, st1_p word)
