-- The numbers of operands: what their values are, and what these give the fields.
use Rattle.std.proofs.Common.{◌≡◌, ℕ, ◌-◌, ◌%◌, ◌<◌, ◌≤◌, ◌^◌, min, ℤ, pos, negsuc, ◌≤ℤ◌, ◌<ℤ◌, int_lt, Bool, true, false, nat_lt, List, [], ◌∷◌, length, Some, Ok, refl, ap, ◌∙◌, arith}
use Rattle.std.specs.Prelude.{suc}
use Rattle.std.specs.Int.{w16, cast_signed}
use Rattle.std.proofs.lemmas.Int.{ints}
use Rattle.std.proofs.lemmas.Bool.Decides.{nat_tests}
use Rattle.c25_meaning_common.specs.Results.{told}
use Rattle.c25_meaning_language.specs.Constant.{constant_value}
use Rattle.c25_meaning_language.specs.Statement.{number_in, valued, value_fault}
use Rattle.c25_meaning_language.specs.Tree.{Tree, Single, Unary, Constant, Name}
use Rattle.c25_meaning_language.specs.Value.{Table, plain_value, predefined}
use Rattle.c25_meaning_language.specs.declared.expression.UnaryOperator.TheVariants as unary
use Rattle.c25_meaning_language.specs.declared.statement.Field.TheVariants as field
use Rattle.c25_meaning_language.specs.declared.value.Base.TheVariants.{Absolute}
use Rattle.c25_print_laws.specs.Saying.{HasNumbers}
use Rattle.c25_meaning_assembly.specs.Addresses.{OperandValues, no_operands, taken, with_number}
use Rattle.c25_meaning_assembly.specs.OperandFields.{field_of}
use Rattle.c25_meaning_assembly.specs.declared.assembly.Target.{Target}

-- ---- values

-- the tree of a constant
abbrev pub constant_tree : List ℕ → Tree
constant_tree text = Single (Constant (min (constant_value text) (2 ^ 31)))

-- the value is this number, whatever symbols there are
abbrev pub IsNumber : Tree → ℤ → Type 0
IsNumber e z = (table : Table) → valued table e ≡ Ok (record { base = Absolute; offset = z })

plain : (n : ℕ) → n < 2 ^ 31 → plain_value n ≡ Ok (record { base = Absolute; offset = pos n })
plain n h = let fits : nat_lt n (2 ^ 31) ≡ true = grind (arith, nat_tests) in rw fits refl

pub constant_number : (n : ℕ) (text : List ℕ) → constant_value text ≡ n → n < 2 ^ 31 → IsNumber (constant_tree text) (pos n)
constant_number n text e h table =
    let least : min n (2 ^ 31) ≡ n = omega arith in
    ap (λ k. told value_fault (plain_value (min k (2 ^ 31)))) e ∙ ap (λ k. told value_fault (plain_value k)) least ∙ ap (told value_fault) (plain n h)

pub negative_number : (n : ℕ) (text : List ℕ) → constant_value text ≡ suc n → n < 65536 → IsNumber (Unary unary.Minus (constant_tree text)) (negsuc n)
negative_number n text e h table =
    let least : min (suc n) (2 ^ 31) ≡ suc n = omega arith in
    let fits : nat_lt (suc n) (2 ^ 31) ≡ true = grind (arith, nat_tests) in
    let also : nat_lt n (2 ^ 31) ≡ true = grind (arith, nat_tests) in
    rw (e, least, fits, also) refl

pub name_number : (n : ℕ) (text : List ℕ) → predefined text ≡ Some n → IsNumber (Single (Name text)) (pos n)
name_number n text e table = rw e refl

-- ---- fields

not_less : (y z : ℤ) → z ≤ℤ y → int_lt y z ≡ false
not_less y z h = of (int_lt y z) refl where
  of : (b : Bool) → int_lt y z ≡ b → int_lt y z ≡ false
  of true e = absurd (omega (arith, ints, e, h))
  of false e = e

less : (y z : ℤ) → y <ℤ z → int_lt y z ≡ true
less y z h = of (int_lt y z) refl where
  of : (b : Bool) → int_lt y z ≡ b → int_lt y z ≡ true
  of true e = e
  of false e = absurd (omega (arith, ints, e, h))

not_below : (n : ℕ) → int_lt (pos n) (pos 0) ≡ false
not_below n = not_less (pos n) (pos 0) (omega (arith, ints))

not_above : (n most : ℕ) → n ≤ most → int_lt (pos most) (pos n) ≡ false
not_above n most h = not_less (pos most) (pos n) (omega (arith, ints))

is_below : (n limit : ℕ) → n < limit → int_lt (pos n) (pos limit) ≡ true
is_below n limit h = less (pos n) (pos limit) (omega (arith, ints))

pub low7 : (n : ℕ) → n < 128 → number_in field.Low7 (pos n) ≡ Ok n
unfolding number_in
low7 n h =
    let same : n % 128 ≡ n = omega arith in
    rw (not_below n, not_above n 65535 (omega arith), same) refl

pub page9 : (n : ℕ) → n < 512 → number_in field.Page9 (pos n) ≡ Ok n
unfolding number_in
page9 n h =
    let same : n % 65536 ≡ n = omega arith in
    rw (not_below n, not_above n 511 (omega arith), same) refl

pub word16 : (n : ℕ) → n < 65536 → number_in field.Word16 (pos n) ≡ Ok n
unfolding number_in
word16 n h =
    let same : n % 65536 ≡ n = omega arith in
    rw (not_above n 65535 (omega arith), same) refl

pub number : (limit n : ℕ) → n < limit → limit ≤ 65536 → number_in (field.Number limit) (pos n) ≡ Ok n
unfolding number_in
number limit n h few =
    let same : n % 65536 ≡ n = omega arith in
    rw (not_below n, is_below n limit h, same) refl

pub signed13 : (n : ℕ) → n ≤ 4095 → number_in field.Signed13 (pos n) ≡ Ok n
unfolding number_in
signed13 n h =
    let same : n % 65536 ≡ n = omega arith in
    rw (not_above n 4095 h, same) refl

negative_low : (n : ℕ) → n ≤ 4095 → int_lt (negsuc n) (negsuc 4095) ≡ false
negative_low n h = not_less (negsuc n) (negsuc 4095) (omega (arith, ints))

pub negative13 : (n : ℕ) → n ≤ 4095 → number_in field.Signed13 (negsuc n) ≡ Ok (65535 - n)
unfolding number_in
negative13 n h =
    let same : 65535 - n % 65536 ≡ 65535 - n = omega arith in
    rw (negative_low n h, same) refl

-- a number of sixteen bits with a sign
pub low_signed : (n : ℕ) → n < 2 ^ 15 → cast_signed w16 n ≡ pos n
low_signed n h = grind (arith, nat_tests)

pub high_signed : (n : ℕ) → n ≤ 4095 → cast_signed w16 (65535 - n) ≡ negsuc n
high_signed n h = let back : 65535 - (65535 - n) ≡ n = omega arith in high (65535 - n) (omega arith) (omega arith) ∙ ap negsuc back where
  high : (m : ℕ) → m < 65536 → 2 ^ 15 ≤ m → cast_signed w16 m ≡ negsuc (65535 - m)
  high m low above = grind (arith, nat_tests)

pub whole_word : (n : ℕ) → n < 65536 → number_in field.Word (pos n) ≡ Ok n
unfolding number_in
whole_word n h = let same : n % 65536 ≡ n = omega arith in rw same refl

-- ---- sheets

taken_number : (t : Target) (table : Table) (s : OperandValues) (e : Tree) (z : ℤ) (n : ℕ) → IsNumber e z → number_in (field_of t (length s.numbers)) z ≡ Ok n
    → taken t table s e ≡ Ok (with_number n s)
unfolding taken
taken_number t table s e z n v f = rw (v table, f) refl

pub one_number : (t : Target) (e : Tree) (z : ℤ) (n : ℕ) → IsNumber e z → number_in (field_of t 0) z ≡ Ok n → HasNumbers t (e ∷ []) (n ∷ [])
one_number t e z n v f table = rw (taken_number t table no_operands e z n v f) refl

pub two_numbers : (t : Target) (d e : Tree) (y z : ℤ) (m n : ℕ) → IsNumber d y → number_in (field_of t 0) y ≡ Ok m → IsNumber e z → number_in (field_of t 1) z ≡ Ok n
    → HasNumbers t (d ∷ e ∷ []) (m ∷ n ∷ [])
two_numbers t d e y z m n v f w g table =
    rw (taken_number t table no_operands d y m v f, taken_number t table (record { numbers = m ∷ []; addresses = [] }) e z n w g) refl

pub no_numbers : (t : Target) → HasNumbers t [] []
no_numbers t table = refl
