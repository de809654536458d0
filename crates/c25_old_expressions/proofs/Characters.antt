-- The value of a constant of two characters.
use Rattle.std.proofs.Common.{◌≡◌, ◌<◌, ℕ, ◌+◌, ◌*◌, ◌^◌, ◌&&◌, true, nat_le, not, eqb, List, Option, Result, Ok, ℤ, pos, bit_or, w32, refl, ap, sym, ◌∙◌, arith}
use Rattle.std.specs.Int.{int_bit_or, cast_signed, cast_unsigned}
use Rattle.std.proofs.lemmas.Bool.{and_parts, leb-true, lt-ltb}
use Rattle.std.proofs.lemmas.Int.{of_z-to_z, to_z_pos}
use Rattle.std.proofs.lemmas.Nat.{or_block}
use Rattle.std.specs.Int.Bits.{or_zero_r}
use Rattle.c25_meaning_common.specs.Results.{◌>>=◌}
use Rattle.c25_meaning_language.specs.Tree.{Tree, Single, Group, Binary, Constant}
use Rattle.c25_meaning_language.specs.Value.{binary_value, in_range, plain_value, value_of}
use Rattle.c25_meaning_language.specs.declared.expression.BinaryOperator.TheVariants as binary
use Rattle.c25_meaning_language.specs.declared.value.Base.TheVariants.{Absolute}
use Rattle.c25_meaning_language.specs.declared.value.Value.{Value}
use Rattle.c25_meaning_language.specs.declared.value.ValueFault.{ValueFault}
use Rattle.c25_old_expressions.specs.declared.order.Order.{Order}
use Rattle.c25_old_expressions.specs.declared.order.Order.TheVariants.{AsWritten, ByLevel}
use Rattle.c25_old_expressions.specs.OldSymbols.{is_character}
use Rattle.c25_old_expressions.specs.Laws.{HasHighAndLow}

abbrev absolute : ℕ → Value
absolute n = record { base = Absolute; offset = pos n }

-- the tree of `('A'<<8|'B')`
abbrev tree_of : ℕ → ℕ → Tree
tree_of high low = Group (Binary binary.Or (Binary binary.ShiftLeft (Single (Constant high)) (Single (Constant 8))) (Single (Constant low)))

fits_in : (n : ℕ) → n < 2 ^ 31 → in_range (pos n) ≡ Ok (pos n)
fits_in n h = rw (lt-ltb n (2 ^ 31) h) refl

plain : (n : ℕ) → n < 2 ^ 31 → plain_value n ≡ Ok (absolute n)
plain n h = ap (λ (r : Result ℤ ValueFault). r >>= λ z. Ok (record { base = Absolute; offset = z })) (fits_in n h)

unsigned_is : (n : ℕ) → n < 2 ^ 31 → cast_unsigned w32 (pos n) ≡ n
unsigned_is n h = ap (cast_unsigned w32) (sym (to_z_pos w32 n h)) ∙ of_z-to_z w32 n (omega (arith, h))

joined : (high low : ℕ) → low < 256 → bit_or (high * 256) low ≡ high * 256 + low
joined high low h =
    let left : high * 2 ^ 8 + 0 ≡ high * 256 = omega arith in
    let right : 0 * 2 ^ 8 + low ≡ low = omega arith in
    sym (ap (λ n. bit_or n (0 * 2 ^ 8 + low)) left ∙ ap (bit_or (high * 256)) right) ∙ or_block 8 high 0 0 low (omega arith) h
    ∙ ap (λ n. n * 2 ^ 8 + bit_or 0 low) (or_zero high) ∙ refl
  where
    or_zero : (n : ℕ) → bit_or n 0 ≡ n
    or_zero n = or_zero_r n

or_is : (high low : ℕ) → high < 128 → low < 128 → int_bit_or w32 (pos (high * 256)) (pos low) ≡ pos (high * 256 + low)
or_is high low h k =
    ap (λ n. cast_signed w32 (bit_or n (cast_unsigned w32 (pos low)))) (unsigned_is (high * 256) (omega (arith, h)))
    ∙ ap (λ n. cast_signed w32 (bit_or (high * 256) n)) (unsigned_is low (omega (arith, k)))
    ∙ ap (cast_signed w32) (joined high low (omega (arith, k)))
    ∙ to_z_pos w32 (high * 256 + low) (omega (arith, h, k))

shifted : (high : ℕ) → high < 128 → binary_value binary.ShiftLeft (absolute high) (absolute 8) ≡ Ok (absolute (high * 256))
shifted high h = ap (λ (r : Result ℤ ValueFault). r >>= λ z. Ok (record { base = Absolute; offset = z })) (fits_in (high * 256) (omega (arith, h)))

value_is : (names : List ℕ → Option Value) (here : Value) (high low : ℕ) → high < 128 → low < 128 → value_of names here (tree_of high low) ≡ Ok (absolute (high * 256 + low))
value_is names here high low h k =
    rw (plain high (omega (arith, h)), shifted high h, plain low (omega (arith, k)), or_is high low h k) refl

small : (b : ℕ) → is_character b ≡ true → b < 128
small b h =
    let p = and_parts (nat_le 32 b && nat_le b 126) (not (eqb b 39)) h in
    omega (arith, leb-true b 126 (and_parts (nat_le 32 b) (nat_le b 126) p.0).1)

pub high_and_low : (order : Order) (high low : ℕ) → is_character high ≡ true → is_character low ≡ true → HasHighAndLow order high low
high_and_low AsWritten high low h k = record { tree = tree_of high low; is_tree = refl; value = λ names here. value_is names here high low (small high h) (small low k) }
high_and_low ByLevel high low h k = record { tree = tree_of high low; is_tree = refl; value = λ names here. value_is names here high low (small high h) (small low k) }
