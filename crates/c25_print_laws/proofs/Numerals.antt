-- The texts of numbers are constants, and have their values.
use Rattle.std.proofs.Common.{◌≡◌, ℕ, zero, suc, ◌+◌, ◌*◌, ◌-◌, ◌/◌, ◌%◌, ◌^◌, ◌<◌, ◌≤◌, ◌==◌, Bool, true, false, ◌&&◌, List, [], ◌∷◌, ◌++◌, length, take, nat_lt, None, codes, refl, ap, ◌∙◌, arith}
use Rattle.std.specs.Prelude.{slice_index}
use Rattle.std.specs.List.{list_all, prefix_len, take_while}
use Rattle.std.specs.Fmt.{decimal}
use Rattle.std.proofs.Math.Seq.{take-append_seam}
use Rattle.std.proofs.lemmas.Bool.{and_parts, and_from}
use Rattle.std.proofs.lemmas.Bool.Decides.{nat_tests}
use Rattle.std.proofs.lemmas.Fmt.{decimal_by_steps, decimal_nonempty, length-decimal-le}
use Rattle.std.proofs.lemmas.List.Folds.{list_all-append}
use Rattle.std.proofs.lemmas.List.Sums.{fold-append}
use Rattle.c25_meaning_common.specs.Bytes.{is_blank, is_digit, is_letter_or_digit, begins_name}
use Rattle.c25_meaning_common.specs.Digits.{digit, all_digits, value_in, hex_digit, two_digits, four_digits}
use Rattle.c25_meaning_language.specs.Constant.{suffix_base, numeral_by, numeral, is_constant, constant_value}
use Rattle.c25_meaning_language.specs.Lexeme.{lexeme, constant_of}
use Rattle.c25_meaning_language.specs.declared.line.TokenKind.TheVariants as kind
use Rattle.c25_meaning_language.specs.declared.line.Lexeme.TheVariants.{Token}
use Rattle.c25_print_laws.proofs.Tokens.{is_quiet}

-- ---- a run of letters and digits

-- all of a front that passes, where what comes after it does not
pub front_passes : (p : ℕ → Bool) (xs more : List ℕ) → list_all p xs ≡ true → prefix_len p more ≡ 0 → prefix_len p (xs ++ more) ≡ length xs
front_passes p [] more all ends = ends
front_passes p (x ∷ xs) more all ends =
    let parts = and_parts (p x) (list_all p xs) all in
    rw (parts.0, front_passes p xs more parts.1 ends) (omega arith)

pub front_taken : (p : ℕ → Bool) (xs more : List ℕ) → list_all p xs ≡ true → prefix_len p more ≡ 0 → take_while p (xs ++ more) ≡ xs
front_taken p xs more all ends = ap (λ k. take k (xs ++ more)) (front_passes p xs more all ends) ∙ take-append_seam xs more

-- each element passes
passes_at : (p : ℕ → Bool) (xs : List ℕ) (k : ℕ) → list_all p xs ≡ true → k < length xs → p (slice_index xs k) ≡ true
passes_at p [] k all h = absurd (omega arith)
passes_at p (x ∷ xs) zero all h = (and_parts (p x) (list_all p xs) all).0
passes_at p (x ∷ xs) (suc k) all h = passes_at p xs k (and_parts (p x) (list_all p xs) all).1 (omega arith)

-- what passes one test passes another
pub all_of : (p q : ℕ → Bool) (xs : List ℕ) → ((b : ℕ) → p b ≡ true → q b ≡ true) → list_all p xs ≡ true → list_all q xs ≡ true
all_of p q [] h all = refl
all_of p q (x ∷ xs) h all =
    let parts = and_parts (p x) (list_all p xs) all in
    rw (h x parts.0) (all_of p q xs h parts.1)

-- ---- constants

-- a text is a constant of a number wherever neither letter nor digit follows
pub record IsConstantOf (n : ℕ) (text : List ℕ) : Type 0 where
  pub lexed : (more : List ℕ) → prefix_len is_letter_or_digit more ≡ 0 → lexeme (text ++ more) ≡ Token kind.Constant (length text)
  pub some : 0 < length text
  pub quiet : list_all is_quiet text ≡ true
  pub short : length text ≤ 20
  pub value : constant_value text ≡ n

no_blank : (d : ℕ) → is_digit d ≡ true → is_blank d ≡ false
no_blank d h = grind (arith, nat_tests)

no_comment : (d : ℕ) → is_digit d ≡ true → (d == 59) ≡ false
no_comment d h = grind (arith, nat_tests)

no_name : (d : ℕ) → is_digit d ≡ true → begins_name d ≡ false
no_name d h = grind (arith, nat_tests)

digit_first : (d : ℕ) (more : List ℕ) → is_digit d ≡ true → lexeme (d ∷ more) ≡ constant_of (take_while is_letter_or_digit (d ∷ more))
unfolding lexeme
digit_first d more h = rw (no_blank d h, no_comment d h, no_name d h, h) refl

constant_run : (text : List ℕ) → is_constant text ≡ true → constant_of text ≡ Token kind.Constant (length text)
constant_run text h = rw h refl

quiet_letter : (b : ℕ) → is_letter_or_digit b ≡ true → is_quiet b ≡ true
quiet_letter b h = grind (arith, nat_tests)

pub constant : (n d : ℕ) (ds : List ℕ) → length (d ∷ ds) ≤ 20 → is_digit d ≡ true → list_all is_letter_or_digit (d ∷ ds) ≡ true → is_constant (d ∷ ds) ≡ true → constant_value (d ∷ ds) ≡ n → IsConstantOf n (d ∷ ds)
constant n d ds short first all is value = record {
  lexed = λ more ends. digit_first d (ds ++ more) first ∙ ap constant_of (front_taken is_letter_or_digit (d ∷ ds) more all ends) ∙ constant_run (d ∷ ds) is;
  some = omega arith;
  quiet = all_of is_letter_or_digit is_quiet (d ∷ ds) quiet_letter all;
  short = short;
  value = value;
}

-- ---- decimal digits

digit_of_decimal : (n : ℕ) → n < 10 → digit (48 + n) ≡ n
digit_of_decimal n h = grind (arith, nat_tests)

digit_is : (n : ℕ) → n < 10 → is_digit (48 + n) ≡ true
digit_is n h = grind (arith, nat_tests)

digit_goes_on : (d : ℕ) → is_digit d ≡ true → is_letter_or_digit d ≡ true
digit_goes_on d h = grind (arith, nat_tests)

digit_below : (d : ℕ) → is_digit d ≡ true → nat_lt (digit d) 10 ≡ true
digit_below d h = grind (arith, nat_tests)

no_suffix : (d : ℕ) → is_digit d ≡ true → suffix_base d ≡ None
no_suffix d h = grind (arith, nat_tests)

-- digits alone, and their value
abbrev IsDecimalOf : ℕ → List ℕ → Type 0
IsDecimalOf n ds = (list_all is_digit ds ≡ true) × (value_in 10 ds ≡ n)

decimal_is : (n : ℕ) → n < 2 ^ 64 → IsDecimalOf n (decimal n)
decimal_is n small = decimal_by_steps IsDecimalOf one more n small where
  one : (m : ℕ) → m < 10 → IsDecimalOf m ((48 + m) ∷ [])
  one m low = (rw (digit_is m low) refl, omega (arith, digit_of_decimal m low))

  more : (m : ℕ) (ds : List ℕ) → 10 ≤ m → IsDecimalOf (m / 10) ds → IsDecimalOf m (ds ++ ((48 + m % 10) ∷ []))
  more m ds high before =
      let low : m % 10 < 10 = omega arith in
      let last = digit_of_decimal (m % 10) low in
      let front = before.1 in (
        list_all-append is_digit ds ((48 + m % 10) ∷ []) ∙ and_from (list_all is_digit ds) (is_digit (48 + m % 10) && true) before.0 (rw (digit_is (m % 10) low) refl),
        fold-append (λ (v b : ℕ). v * 10 + digit b) 0 ds ((48 + m % 10) ∷ []) ∙ omega (arith, last, front),
      )

plain_numeral : (text : List ℕ) → list_all is_digit text ≡ true → 0 < length text → numeral text ≡ record { base = 10; digits = text }
plain_numeral text all some = ap (λ o. numeral_by o text) (no_suffix (slice_index text (length text - 1)) (passes_at is_digit text (length text - 1) all (omega arith)))

digits_constant : (n : ℕ) (text : List ℕ) → length text ≤ 20 → 0 < length text → IsDecimalOf n text → IsConstantOf n text
digits_constant n [] short some is = absurd (omega arith)
digits_constant n (d ∷ ds) short some is =
    constant n d ds short (and_parts (is_digit d) (list_all is_digit ds) is.0).0 (all_of is_digit is_letter_or_digit (d ∷ ds) digit_goes_on is.0)
    (ap (λ m. all_digits m.base m.digits) (plain_numeral (d ∷ ds) is.0 some) ∙ all_of is_digit (λ b. nat_lt (digit b) 10) (d ∷ ds) digit_below is.0)
    (ap (λ m. value_in m.base m.digits) (plain_numeral (d ∷ ds) is.0 some) ∙ is.1)

-- a number in decimal
pub decimal_constant : (n : ℕ) → n < 2 ^ 64 → IsConstantOf n (decimal n)
decimal_constant n small = digits_constant n (decimal n) (length-decimal-le 20 n (omega arith) (omega arith) small) (decimal_nonempty n small) (decimal_is n small)

-- ---- hexadecimal digits

pub digit_of_hex : (n : ℕ) → n < 16 → digit (hex_digit n) ≡ n
digit_of_hex n h = grind (arith, nat_tests)

hex_goes_on : (n : ℕ) → n < 16 → is_letter_or_digit (hex_digit n) ≡ true
hex_goes_on n h = grind (arith, nat_tests)

hex_below : (n : ℕ) → n < 16 → nat_lt (digit (hex_digit n)) 16 ≡ true
hex_below n h = grind (arith, nat_tests)

-- two digits
pub byte_constant : (n : ℕ) → n < 256 → IsConstantOf n (codes "0" ++ two_digits n ++ codes "h")
byte_constant n h =
    let a : n / 16 % 16 < 16 = omega arith in
    let b : n % 16 < 16 = omega arith in
    let p = hex_digit (n / 16 % 16) in
    let q = hex_digit (n % 16) in
    let of_p = digit_of_hex _ a in
    let of_q = digit_of_hex _ b in
    constant n 48 (p ∷ q ∷ 104 ∷ []) (omega arith) refl (rw (hex_goes_on _ a, hex_goes_on _ b) refl) (rw (hex_below _ a, hex_below _ b) refl) (rw (of_p, of_q) (omega arith))

-- four digits
pub word_constant : (n : ℕ) → n < 65536 → IsConstantOf n (codes "0" ++ four_digits n ++ codes "h")
word_constant n h =
    let a : n / 256 / 16 % 16 < 16 = omega arith in
    let b : n / 256 % 16 < 16 = omega arith in
    let c : n / 16 % 16 < 16 = omega arith in
    let d : n % 16 < 16 = omega arith in
    let p = hex_digit (n / 256 / 16 % 16) in
    let q = hex_digit (n / 256 % 16) in
    let r = hex_digit (n / 16 % 16) in
    let s = hex_digit (n % 16) in
    constant n 48 (p ∷ q ∷ r ∷ s ∷ 104 ∷ []) (omega arith) refl (rw (hex_goes_on _ a, hex_goes_on _ b, hex_goes_on _ c, hex_goes_on _ d) refl)
    (rw (hex_below _ a, hex_below _ b, hex_below _ c, hex_below _ d) refl) (rw (digit_of_hex _ a, digit_of_hex _ b, digit_of_hex _ c, digit_of_hex _ d) (omega arith))
