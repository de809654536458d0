-- The decimal digits of a number are a number without leading zeros.
use Rattle.std.proofs.Common.{◌≡◌, ℕ, zero, suc, ◌+◌, ◌%◌, ◌<◌, ◌≤◌, ◌^◌, ◌==◌, ◌&&◌, ◌||◌, not, true, List, [], ◌∷◌, ◌++◌, length, refl, ap, ◌∙◌, arith}
use Rattle.std.specs.Prelude.{nat_lt, slice_index}
use Rattle.std.specs.Fmt.{decimal}
use Rattle.std.specs.List.{list_all}
use Rattle.std.proofs.lemmas.Bool.{and_from, or_right, not_from_false, ne_eqb, lt-ltb, le-leb}
use Rattle.std.proofs.lemmas.Fmt.{decimal_by_steps, decimal_digit, decimal_nonempty, first_decimal}
use Rattle.std.proofs.lemmas.List.Folds.{list_all-append}
use Rattle.c25_meaning_common.specs.Bytes.{is_digit}
use Rattle.c25_meaning_linking.specs.MapText.{is_number}

one_digit : (d : ℕ) → d < 10 → is_digit (48 + d) ≡ true
one_digit d h = and_from _ _ (le-leb 48 (48 + d) (omega arith)) (le-leb (48 + d) 57 (omega arith))

all_digits : (n : ℕ) → n < 2 ^ 64 → list_all is_digit (decimal n) ≡ true
all_digits n small = decimal_by_steps (λ m ds. list_all is_digit ds ≡ true) one more n small where
  one : (m : ℕ) → m < 10 → list_all is_digit ((48 + m) ∷ []) ≡ true
  one m low = and_from (is_digit (48 + m)) true (one_digit m low) refl

  more : (m : ℕ) (ds : List ℕ) → 10 ≤ m → list_all is_digit ds ≡ true → list_all is_digit (ds ++ ((48 + m % 10) ∷ [])) ≡ true
  more m ds high before =
      list_all-append is_digit ds ((48 + m % 10) ∷ []) ∙ and_from (list_all is_digit ds) (is_digit (48 + m % 10) && true) before (and_from (is_digit (48 + m % 10)) true (one_digit (m % 10) (omega arith)) refl)

pub is_decimal : (n : ℕ) → n < 2 ^ 64 → is_number (decimal n) ≡ true
is_decimal zero small = ap is_number (decimal_digit 0 (omega arith))
is_decimal (suc n) small =
    let ds = decimal (suc n) in
    let first : 48 < slice_index ds 0 = first_decimal (suc n) (omega arith) small in
    and_from (nat_lt 0 (length ds) && list_all is_digit ds) (length ds == 1 || not (slice_index ds 0 == 48))
    (and_from (nat_lt 0 (length ds)) (list_all is_digit ds) (lt-ltb 0 (length ds) (decimal_nonempty (suc n) small)) (all_digits (suc n) small))
    (or_right (length ds == 1) (not (slice_index ds 0 == 48)) (not_from_false (slice_index ds 0 == 48) (ne_eqb (slice_index ds 0) 48 (λ e. omega (arith, e, first)))))
