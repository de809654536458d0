-- The numbers of a map's lines: what is printed is read, and what is read was printed.
use Rattle.std.proofs.Common.{◌≡◌, ℕ, ◌+◌, ◌*◌, ◌/◌, ◌%◌, ◌<◌, ◌≤◌, Bool, true, false, ◌&&◌, nat_le, nat_lt, eqb, List, [], ◌∷◌, ◌++◌, length, take, drop, codes, zero, suc, Some, if◌then◌else◌, Ok, Err, refl, sym, ap, ◌∙◌, arith}
use Rattle.std.specs.List.{list_all}
use Rattle.std.specs.Str.{bytes_eq}
use Rattle.std.specs.Option.{ok_or}
use Rattle.std.proofs.lemmas.Bool.{and_parts, ltb-true}
use Rattle.std.proofs.lemmas.Bool.{eqb-true}
use Rattle.std.proofs.lemmas.List.{take-append-drop}
use Rattle.std.proofs.lemmas.Fmt.{decimal_digit as decimal_digit_text}
use Rattle.std.specs.Fmt.{decimal}
use Rattle.std.proofs.lemmas.List.Folds.{list_all-append}
use Rattle.c25_meaning_common.specs.Results.{◌>>=◌}
use Rattle.std.proofs.lemmas.Bool.Decides.{nat_tests}
use Rattle.std.proofs.lemmas.Slice.Eq.{bytes_eq-Decides}
use Rattle.c25_meaning_common.specs.Bytes.{is_digit}
use Rattle.c25_meaning_common.specs.Digits.{digit, value_in, decimal_of, hexadecimal_of}
use Rattle.c25_meaning_common.specs.Digits.{hex_digit, four_digits}
use Rattle.c25_meaning_linking.specs.MapText.{address_text, decimal_digit, five_digits, eight_digits}
use Rattle.c25_map.specs.Reading.{is_upper_digit, word_of, address_of, long_of, size_of, page_of}
use Rattle.c25_map.specs.declared.map_fault.MapFault.TheVariants.{BadMap}
use Rattle.c25_map.proofs.Steps.{tested, stepped, given, some_tested}

-- ---- hexadecimal digits

digit_of_hex : (n : ℕ) → n < 16 → digit (hex_digit n) ≡ n
digit_of_hex n h = grind (arith, nat_tests)

hex_is_upper : (n : ℕ) → n < 16 → is_upper_digit (hex_digit n) ≡ true
hex_is_upper n h = grind (arith, nat_tests)

hex_of_digit : (b : ℕ) → is_upper_digit b ≡ true → hex_digit (digit b) ≡ b
hex_of_digit b h = grind (arith, nat_tests)

upper_below : (b : ℕ) → is_upper_digit b ≡ true → digit b < 16
upper_below b h = grind (arith, nat_tests)

-- ---- decimal digits

digit_of_decimal : (n : ℕ) → n < 10 → digit (48 + n) ≡ n
digit_of_decimal n h = grind (arith, nat_tests)

decimal_of_digit : (b : ℕ) → digit b < 10 → 48 + digit b ≡ b
decimal_of_digit b h = grind (arith, nat_tests)

-- ---- texts

pub same_text : (xs ys : List ℕ) → bytes_eq xs ys ≡ true → xs ≡ ys
same_text xs ys h = (bytes_eq-Decides xs ys).0 h

pub other_text : (xs ys : List ℕ) → (xs ≡ ys → ⊥) → bytes_eq xs ys ≡ false
other_text xs ys differ = decided (bytes_eq xs ys) (same_text xs ys) where
  decided : (b : Bool) → (b ≡ true → xs ≡ ys) → b ≡ false
  decided true h = absurd (differ (h refl))
  decided false h = refl

four_same : (p q r s t u v w : ℕ) → p ≡ t → q ≡ u → r ≡ v → s ≡ w → p ∷ q ∷ r ∷ s ∷ [] ≡ t ∷ u ∷ v ∷ w ∷ []
four_same p q r s t u v w a b c d = cc

below : (a b : ℕ) → a < b → nat_lt a b ≡ true
below a b h = grind (arith, nat_tests)

at_most : (a b : ℕ) → a ≤ b → nat_le a b ≡ true
at_most a b h = grind (arith, nat_tests)

within : (a b : ℕ) → nat_le a b ≡ true → a ≤ b
within a b h = grind (arith, nat_tests)

all_of : (p q : ℕ → Bool) (ds : List ℕ) → ((b : ℕ) → p b ≡ true → q b ≡ true) → list_all p ds ≡ true → list_all q ds ≡ true
all_of p q [] h all = refl
all_of p q (d ∷ ds) h all =
    let parts = and_parts (p d) (list_all p ds) all in
    rw (h d parts.0) (all_of p q ds h parts.1)

-- ---- words

upper_digits : (ds : List ℕ) → list_all is_upper_digit ds ≡ true → list_all (λ b. nat_lt (digit b) 16) ds ≡ true
upper_digits ds h = all_of is_upper_digit (λ b. nat_lt (digit b) 16) ds (λ b up. below (digit b) 16 (upper_below b up)) h

four_read : (p q r s : ℕ) → list_all is_upper_digit (p ∷ q ∷ r ∷ s ∷ []) ≡ true → word_of (p ∷ q ∷ r ∷ s ∷ []) ≡ Ok (value_in 16 (p ∷ q ∷ r ∷ s ∷ []))
unfolding word_of hexadecimal_of
four_read p q r s up = rw (up, upper_digits (p ∷ q ∷ r ∷ s ∷ []) up) refl

four_upper : (p q r s : ℕ) → is_upper_digit p ≡ true → is_upper_digit q ≡ true → is_upper_digit r ≡ true → is_upper_digit s ≡ true → list_all is_upper_digit (p ∷ q ∷ r ∷ s ∷ []) ≡ true
four_upper p q r s hp hq hr hs = rw (hp, hq, hr, hs) refl

four_value : (n p q r s : ℕ) → n < 65536 → digit p ≡ n / 256 / 16 % 16 → digit q ≡ n / 256 % 16 → digit r ≡ n / 16 % 16 → digit s ≡ n % 16
    → value_in 16 (p ∷ q ∷ r ∷ s ∷ []) ≡ n
four_value n p q r s h dp dq dr ds = rw (dp, dq, dr, ds) (omega arith)

pub word_back : (n : ℕ) → n < 65536 → word_of (four_digits n) ≡ Ok n
word_back n h =
    let a : n / 256 / 16 % 16 < 16 = omega arith in
    let b : n / 256 % 16 < 16 = omega arith in
    let c : n / 16 % 16 < 16 = omega arith in
    let d : n % 16 < 16 = omega arith in
    let p = hex_digit (n / 256 / 16 % 16) in
    let q = hex_digit (n / 256 % 16) in
    let r = hex_digit (n / 16 % 16) in
    let s = hex_digit (n % 16) in
    four_read p q r s (four_upper p q r s (hex_is_upper _ a) (hex_is_upper _ b) (hex_is_upper _ c) (hex_is_upper _ d))
    ∙ ap Ok (four_value n p q r s h (digit_of_hex _ a) (digit_of_hex _ b) (digit_of_hex _ c) (digit_of_hex _ d))

digit_at : (n p a : ℕ) → is_upper_digit p ≡ true → digit p ≡ a → p ≡ hex_digit a
digit_at n p a up e = sym (hex_of_digit p up) ∙ ap hex_digit e

four_numbers : (a b c d n : ℕ) → a < 16 → b < 16 → c < 16 → d < 16 → ((a * 16 + b) * 16 + c) * 16 + d ≡ n
    → (a ≡ n / 256 / 16 % 16) × (b ≡ n / 256 % 16) × (c ≡ n / 16 % 16) × (d ≡ n % 16) × (n < 65536)
four_numbers a b c d n ha hb hc hd e = (omega arith, omega arith, omega arith, omega arith, omega arith)

four_found : (ds : List ℕ) (n : ℕ) → list_all is_upper_digit ds ≡ true → length ds ≡ 4 → value_in 16 ds ≡ n → (ds ≡ four_digits n) × (n < 65536)
four_found [] n up len e = absurd (omega arith)
four_found (p ∷ []) n up len e = absurd (omega arith)
four_found (p ∷ q ∷ []) n up len e = absurd (omega arith)
four_found (p ∷ q ∷ r ∷ []) n up len e = absurd (omega arith)
four_found (p ∷ q ∷ r ∷ s ∷ t ∷ ds) n up len e = absurd (omega arith)
four_found (p ∷ q ∷ r ∷ s ∷ []) n up len e =
    let one = and_parts (is_upper_digit p) (list_all is_upper_digit (q ∷ r ∷ s ∷ [])) up in
    let two = and_parts (is_upper_digit q) (list_all is_upper_digit (r ∷ s ∷ [])) one.1 in
    let three = and_parts (is_upper_digit r) (list_all is_upper_digit (s ∷ [])) two.1 in
    let four = and_parts (is_upper_digit s) true three.1 in
    let whole : ((digit p * 16 + digit q) * 16 + digit r) * 16 + digit s ≡ n = omega (arith, e) in
    let numbers = four_numbers (digit p) (digit q) (digit r) (digit s) n (upper_below p one.0) (upper_below q two.0) (upper_below r three.0) (upper_below s four.0) whole in (
      four_same p q r s _ _ _ _ (digit_at n p _ one.0 numbers.0) (digit_at n q _ two.0 numbers.1) (digit_at n r _ three.0 numbers.2) (digit_at n s _ four.0 numbers.3),
      numbers.4,
    )

hex_parts : (ds : List ℕ) (n : ℕ) → hexadecimal_of 4 ds ≡ Some n → (length ds ≡ 4) × (value_in 16 ds ≡ n)
unfolding hexadecimal_of
hex_parts ds n h =
    let all = list_all (λ b. nat_lt (digit b) 16) ds in
    let some = some_tested (nat_lt 0 (length ds) && all && nat_le 4 (length ds) && nat_le (length ds) 4) (value_in 16 ds) n h in
    (grind (arith, nat_tests, some.0), some.1)

pub word_found : (ds : List ℕ) (n : ℕ) → word_of ds ≡ Ok n → (ds ≡ four_digits n) × (n < 65536)
unfolding word_of
word_found ds n h =
    let test = tested (list_all is_upper_digit ds) (ok_or (hexadecimal_of 4 ds) BadMap) BadMap n h in
    let parts = hex_parts ds n (given (hexadecimal_of 4 ds) BadMap n test.1) in
    four_found ds n test.0 parts.0 parts.1

-- ---- addresses

address_by : (b : Bool) (a : ℕ) → eqb a 65536 ≡ b → a ≤ 65536 → address_of (if b then codes "10000" else four_digits a) ≡ Ok a
unfolding address_of
address_by true a e h = let is : a ≡ 65536 = grind (arith, nat_tests) in ap Ok (sym is)
address_by false a e h =
    let lower : a < 65536 = grind (arith, nat_tests) in
    rw (other_text (four_digits a) (codes "10000") (λ same. let long = ap length same in omega (arith, long))) (word_back a lower)

pub address_back : (a : ℕ) → a ≤ 65536 → address_of (address_text a) ≡ Ok a
address_back a h = address_by (eqb a 65536) a refl h

address_found_by : (b : Bool) (ds : List ℕ) (a : ℕ) → bytes_eq ds (codes "10000") ≡ b → (if b then Ok 65536 else word_of ds) ≡ Ok a → (ds ≡ address_text a) × (a ≤ 65536)
address_found_by true ds a e h =
    let is : 65536 ≡ a = cc in
    (same_text ds (codes "10000") e ∙ ap address_text is, omega arith)
address_found_by false ds a e h =
    let found = word_found ds a h in
    let other : eqb a 65536 ≡ false = let low = found.1 in grind (arith, nat_tests) in
    (found.0 ∙ rw other refl, let low = found.1 in omega arith)

pub address_found : (ds : List ℕ) (a : ℕ) → address_of ds ≡ Ok a → (ds ≡ address_text a) × (a ≤ 65536)
unfolding address_of
address_found ds a h = address_found_by (bytes_eq ds (codes "10000")) ds a refl h

-- ---- numbers of eight digits

long_read : (high low : List ℕ) (a b : ℕ) → length (high ++ low) ≡ 8 → take 4 (high ++ low) ≡ high → drop 4 (high ++ low) ≡ low → word_of high ≡ Ok a → word_of low ≡ Ok b
    → long_of (high ++ low) ≡ Ok (65536 * a + b)
unfolding long_of
long_read high low a b len front back ha hb = rw (len, front, back, ha, hb) refl

pub long_back : (n : ℕ) → n < 4294967296 → long_of (eight_digits n) ≡ Ok n
unfolding eight_digits
long_back n h =
    let high : n / 65536 < 65536 = omega arith in
    let low : n % 65536 < 65536 = omega arith in
    let whole : 65536 * (n / 65536) + n % 65536 ≡ n = omega arith in
    long_read (four_digits (n / 65536)) (four_digits (n % 65536)) (n / 65536) (n % 65536) refl refl refl (word_back (n / 65536) high) (word_back (n % 65536) low) ∙ ap Ok whole

two_halves : (a b n : ℕ) → a < 65536 → b < 65536 → 65536 * a + b ≡ n → (a ≡ n / 65536) × (b ≡ n % 65536) × (n < 4294967296)
two_halves a b n ha hb e = (omega arith, omega arith, omega arith)

halves_found : (ds : List ℕ) (a b n : ℕ) → word_of (take 4 ds) ≡ Ok a → word_of (drop 4 ds) ≡ Ok b → 65536 * a + b ≡ n → (ds ≡ eight_digits n) × (n < 4294967296)
unfolding eight_digits
halves_found ds a b n ha hb e =
    let high = word_found (take 4 ds) a ha in
    let low = word_found (drop 4 ds) b hb in
    let halves = two_halves a b n high.1 low.1 e in
    let front : take 4 ds ≡ four_digits (n / 65536) = high.0 ∙ ap four_digits halves.0 in
    let back : drop 4 ds ≡ four_digits (n % 65536) = low.0 ∙ ap four_digits halves.1 in
    (sym (take-append-drop 4 ds) ∙ ap (λ (t : List ℕ). t ++ drop 4 ds) front ∙ ap (λ (t : List ℕ). four_digits (n / 65536) ++ t) back, halves.2)

pub long_found : (ds : List ℕ) (n : ℕ) → long_of ds ≡ Ok n → (ds ≡ eight_digits n) × (n < 4294967296)
unfolding long_of
long_found ds n h =
    let test = tested (eqb (length ds) 8) (word_of (take 4 ds) >>= λ high. word_of (drop 4 ds) >>= λ low. Ok (65536 * high + low)) BadMap n h in
    let one = stepped (word_of (take 4 ds)) (λ (high : ℕ). word_of (drop 4 ds) >>= λ low. Ok (65536 * high + low)) n test.1 in
    let two = stepped (word_of (drop 4 ds)) (λ (low : ℕ). Ok (65536 * one.0 + low)) n one.2 in
    let is : 65536 * one.0 + two.0 ≡ n = let last = two.2 in cc in
    halves_found ds one.0 two.0 n one.1 two.1 is

-- ---- sizes

five_read : (p q r s t : ℕ) → list_all (λ b. nat_lt (digit b) 10) (p ∷ q ∷ r ∷ s ∷ t ∷ []) ≡ true → nat_le (value_in 10 (p ∷ q ∷ r ∷ s ∷ t ∷ [])) 99999 ≡ true
    → size_of (p ∷ q ∷ r ∷ s ∷ t ∷ []) ≡ Ok (value_in 10 (p ∷ q ∷ r ∷ s ∷ t ∷ []))
unfolding size_of decimal_of
five_read p q r s t all most = rw (all, most) refl

five_low : (p q r s t : ℕ) → digit p < 10 → digit q < 10 → digit r < 10 → digit s < 10 → digit t < 10 → list_all (λ b. nat_lt (digit b) 10) (p ∷ q ∷ r ∷ s ∷ t ∷ []) ≡ true
five_low p q r s t hp hq hr hs ht = rw (below _ 10 hp, below _ 10 hq, below _ 10 hr, below _ 10 hs, below _ 10 ht) refl

five_value : (n p q r s t : ℕ) → n ≤ 99999 → digit p ≡ n / 10000 % 10 → digit q ≡ n / 1000 % 10 → digit r ≡ n / 100 % 10 → digit s ≡ n / 10 % 10 → digit t ≡ n % 10
    → value_in 10 (p ∷ q ∷ r ∷ s ∷ t ∷ []) ≡ n
five_value n p q r s t h dp dq dr ds dt = rw (dp, dq, dr, ds, dt) (omega arith)

five_by : (n p q r s t : ℕ) → n ≤ 99999 → digit p ≡ n / 10000 % 10 → digit q ≡ n / 1000 % 10 → digit r ≡ n / 100 % 10 → digit s ≡ n / 10 % 10 → digit t ≡ n % 10
    → size_of (p ∷ q ∷ r ∷ s ∷ t ∷ []) ≡ Ok n
five_by n p q r s t h dp dq dr ds dt =
    let value = five_value n p q r s t h dp dq dr ds dt in
    let most : nat_le (value_in 10 (p ∷ q ∷ r ∷ s ∷ t ∷ [])) 99999 ≡ true = ap (λ (v : ℕ). nat_le v 99999) value ∙ at_most n 99999 h in
    let low = five_low p q r s t (omega arith) (omega arith) (omega arith) (omega arith) (omega arith) in
    five_read p q r s t low most ∙ ap Ok value

pub size_back : (n : ℕ) → n ≤ 99999 → size_of (five_digits n) ≡ Ok n
size_back n h =
    five_by n (decimal_digit (n / 10000)) (decimal_digit (n / 1000)) (decimal_digit (n / 100)) (decimal_digit (n / 10)) (decimal_digit n) h
    (digit_of_decimal _ (omega arith)) (digit_of_decimal _ (omega arith)) (digit_of_decimal _ (omega arith)) (digit_of_decimal _ (omega arith)) (digit_of_decimal _ (omega arith))

five_numbers : (a b c d e n : ℕ) → a < 10 → b < 10 → c < 10 → d < 10 → e < 10 → (((a * 10 + b) * 10 + c) * 10 + d) * 10 + e ≡ n
    → (a ≡ n / 10000 % 10) × (b ≡ n / 1000 % 10) × (c ≡ n / 100 % 10) × (d ≡ n / 10 % 10) × (e ≡ n % 10)
five_numbers a b c d e n ha hb hc hd he is = (omega arith, omega arith, omega arith, omega arith, omega arith)

five_same : (p q r s t u v w x y : ℕ) → p ≡ u → q ≡ v → r ≡ w → s ≡ x → t ≡ y → p ∷ q ∷ r ∷ s ∷ t ∷ [] ≡ u ∷ v ∷ w ∷ x ∷ y ∷ []
five_same p q r s t u v w x y a b c d e = cc

decimal_at : (p a : ℕ) → digit p < 10 → digit p ≡ a → p ≡ 48 + a
decimal_at p a low e = sym (decimal_of_digit p low) ∙ ap (λ (k : ℕ). 48 + k) e

lower : (b : ℕ) → nat_lt (digit b) 10 ≡ true → digit b < 10
lower b h = ltb-true (digit b) 10 h

five_found : (ds : List ℕ) (n : ℕ) → list_all (λ b. nat_lt (digit b) 10) ds ≡ true → length ds ≡ 5 → value_in 10 ds ≡ n → ds ≡ five_digits n
five_found [] n all len e = absurd (omega arith)
five_found (p ∷ []) n all len e = absurd (omega arith)
five_found (p ∷ q ∷ []) n all len e = absurd (omega arith)
five_found (p ∷ q ∷ r ∷ []) n all len e = absurd (omega arith)
five_found (p ∷ q ∷ r ∷ s ∷ []) n all len e = absurd (omega arith)
five_found (p ∷ q ∷ r ∷ s ∷ t ∷ u ∷ ds) n all len e = absurd (omega arith)
five_found (p ∷ q ∷ r ∷ s ∷ t ∷ []) n all len e =
    let P : ℕ → Bool = λ b. nat_lt (digit b) 10 in
    let one = and_parts (P p) (list_all P (q ∷ r ∷ s ∷ t ∷ [])) all in
    let two = and_parts (P q) (list_all P (r ∷ s ∷ t ∷ [])) one.1 in
    let three = and_parts (P r) (list_all P (s ∷ t ∷ [])) two.1 in
    let four = and_parts (P s) (list_all P (t ∷ [])) three.1 in
    let five = and_parts (P t) true four.1 in
    let whole : (((digit p * 10 + digit q) * 10 + digit r) * 10 + digit s) * 10 + digit t ≡ n = omega (arith, e) in
    let numbers = five_numbers (digit p) (digit q) (digit r) (digit s) (digit t) n (lower p one.0) (lower q two.0) (lower r three.0) (lower s four.0) (lower t five.0) whole in
    five_same p q r s t _ _ _ _ _ (decimal_at p _ (lower p one.0) numbers.0) (decimal_at q _ (lower q two.0) numbers.1) (decimal_at r _ (lower r three.0) numbers.2)
    (decimal_at s _ (lower s four.0) numbers.3) (decimal_at t _ (lower t five.0) numbers.4)

decimal_parts : (ds : List ℕ) (n : ℕ) → decimal_of 99999 ds ≡ Some n → (list_all (λ b. nat_lt (digit b) 10) ds ≡ true) × (value_in 10 ds ≡ n) × (n ≤ 99999)
unfolding decimal_of
decimal_parts ds n h =
    let all = list_all (λ b. nat_lt (digit b) 10) ds in
    let some = some_tested (nat_lt 0 (length ds) && all && nat_le (value_in 10 ds) 99999) (value_in 10 ds) n h in
    let one = and_parts (nat_lt 0 (length ds) && all) (nat_le (value_in 10 ds) 99999) some.0 in
    let two = and_parts (nat_lt 0 (length ds)) all one.0 in
    let least = within (value_in 10 ds) 99999 one.1 in
    let is = some.1 in
    (two.1, is, omega arith)

pub size_found : (ds : List ℕ) (n : ℕ) → size_of ds ≡ Ok n → (ds ≡ five_digits n) × (n ≤ 99999)
unfolding size_of
size_found ds n h =
    let test = tested (eqb (length ds) 5) (ok_or (decimal_of 99999 ds) BadMap) BadMap n h in
    let parts = decimal_parts ds n (given (decimal_of 99999 ds) BadMap n test.1) in
    (five_found ds n parts.0 (eqb-true (length ds) 5 test.0) parts.1, parts.2)

-- ---- pages

page_by : (p : ℕ) → p ≤ 1 → page_of ((48 + p) ∷ []) ≡ Ok p
unfolding page_of
page_by zero h = refl
page_by (suc zero) h = refl
page_by (suc (suc p)) h = absurd (omega arith)

pub page_back : (p : ℕ) → p ≤ 1 → page_of (decimal p) ≡ Ok p
page_back p h = ap page_of (decimal_digit_text p (omega arith)) ∙ page_by p h

page_found_by : (a b : Bool) (ds : List ℕ) (p : ℕ) → bytes_eq ds (codes "0") ≡ a → bytes_eq ds (codes "1") ≡ b → (if a then Ok 0 else (if b then Ok 1 else Err BadMap)) ≡ Ok p → (ds ≡ (48 + p) ∷ []) × (p ≤ 1)
page_found_by true b ds p e f h = let is : 0 ≡ p = cc in (same_text ds (codes "0") e ∙ ap (λ (k : ℕ). (48 + k) ∷ []) is, omega arith)
page_found_by false true ds p e f h = let is : 1 ≡ p = cc in (same_text ds (codes "1") f ∙ ap (λ (k : ℕ). (48 + k) ∷ []) is, omega arith)
page_found_by false false ds p e f h = absurd cc

pub page_found : (ds : List ℕ) (p : ℕ) → page_of ds ≡ Ok p → (ds ≡ decimal p) × (p ≤ 1)
unfolding page_of
page_found ds p h =
    let found = page_found_by (bytes_eq ds (codes "0")) (bytes_eq ds (codes "1")) ds p refl refl h in
    let low = found.1 in
    (found.0 ∙ sym (decimal_digit_text p (omega arith)), low)

-- ---- what digits are

pub word_upper : (n : ℕ) → n < 65536 → list_all is_upper_digit (four_digits n) ≡ true
unfolding word_of
word_upper n h = (tested (list_all is_upper_digit (four_digits n)) (ok_or (hexadecimal_of 4 (four_digits n)) BadMap) BadMap n (word_back n h)).0

upper_by : (b : Bool) (a : ℕ) → eqb a 65536 ≡ b → a ≤ 65536 → list_all is_upper_digit (if b then codes "10000" else four_digits a) ≡ true
upper_by true a e h = refl
upper_by false a e h = word_upper a (grind (arith, nat_tests))

pub address_upper : (a : ℕ) → a ≤ 65536 → list_all is_upper_digit (address_text a) ≡ true
address_upper a h = upper_by (eqb a 65536) a refl h

pub long_upper : (n : ℕ) → n < 4294967296 → list_all is_upper_digit (eight_digits n) ≡ true
unfolding eight_digits
long_upper n h =
    list_all-append is_upper_digit (four_digits (n / 65536)) (four_digits (n % 65536))
    ∙ rw (word_upper (n / 65536) (omega arith), word_upper (n % 65536) (omega arith)) refl

digit_value : (b : ℕ) → nat_lt (digit b) 10 ≡ true → is_digit b ≡ true
digit_value b h = grind (arith, nat_tests)

pub size_digits : (n : ℕ) → n ≤ 99999 → list_all is_digit (five_digits n) ≡ true
unfolding size_of
size_digits n h =
    let test = tested (eqb (length (five_digits n)) 5) (ok_or (decimal_of 99999 (five_digits n)) BadMap) BadMap n (size_back n h) in
    let parts = decimal_parts (five_digits n) n (given (decimal_of 99999 (five_digits n)) BadMap n test.1) in
    all_of (λ b. nat_lt (digit b) 10) is_digit (five_digits n) digit_value parts.0
