-- Written lines as they are read.
use Rattle.std.proofs.Common.{◌≡◌, ◌≢◌, ℕ, zero, suc, ◌+◌, ◌-◌, ◌/◌, ◌%◌, ◌<◌, ◌≤◌, true, false, cond, eqb, ltb, leb, not, List, [], ◌∷◌, ◌++◌, length, get_or, sum, Option, is_some, Ok, Err, refl, sym, ap, subst, ◌∙◌, arith, inl, inr, ◌⊎◌, lit<}
use Rattle.std.specs.List.{list_all}
use Rattle.std.proofs.lemmas.Bool.{le-leb, lt-leb, lt-ltb, le-ltb, eq-eqb, ne_eqb, and_from, cases_lt, cases_Bool, cond-false}
use Rattle.std.proofs.lemmas.List.{length-append, append-nil, append_cancel_left}
use Rattle.std.proofs.lemmas.List.Sums.{sum_by_push}
use Rattle.hex.specs.Hex.{IsBytes, decode_of, is_hex_digit, encode_with, encode_upper, upper_digits}
use Rattle.hex.proofs.HexLemmas.{IsDigits-upper_digits, decode_of-encode_upper}
use Rattle.c25_hex.specs.declared.hex_fault.HexFault.{HexFault}
use Rattle.c25_hex.specs.declared.hex_fault.HexFault.TheVariants.{AfterEnd, BadDigit, BadCount}
use Rattle.c25_hex.specs.Hex.{HexState, bytes_of, checked_line, count_fits, after_bytes, after_line}
use Rattle.c25_meaning_common.specs.Results.{◌>>=◌, told}
use Rattle.c25_hex.specs.HexText.{line_body, with_sum, hex_line}

-- ---- digits

digits_pass : (xs : List ℕ) → IsBytes xs → list_all is_hex_digit (encode_upper xs) ≡ true
unfolding encode_with
digits_pass [] h = refl
digits_pass (b ∷ xs) h =
    let fits : b < 256 = h 0 in
    let high : is_hex_digit (get_or upper_digits (b / 16) 0) ≡ true = ap (λ (o : Option ℕ). is_some o) (IsDigits-upper_digits (b / 16) (omega arith)) in
    let low : is_hex_digit (get_or upper_digits (b % 16) 0) ≡ true = ap (λ (o : Option ℕ). is_some o) (IsDigits-upper_digits (b % 16) (omega arith)) in
    and_from _ _ high (and_from _ _ low (digits_pass xs (λ k. h (suc k))))

begun : (digits : List ℕ) → bytes_of (58 ∷ digits) ≡ cond (not (list_all is_hex_digit digits)) (Err BadDigit) (told (λ e. BadCount) (decode_of digits))
unfolding bytes_of
begun digits = let long : ltb 0 (length (58 ∷ digits)) ≡ true = lt-ltb 0 (length (58 ∷ digits)) (omega arith) in rw long refl

-- the digits of bytes are these bytes
bytes_back : (xs : List ℕ) → IsBytes xs → bytes_of (58 ∷ encode_upper xs) ≡ Ok xs
bytes_back xs h = begun (encode_upper xs) ∙ (let all = digits_pass xs h in rw all (ap (told (λ e. BadCount)) (decode_of-encode_upper xs h)))

-- ---- a whole line

-- the parts of a line whose form is right
pub record IsLine (address kind : ℕ) (bytes : List ℕ) : Type 0 where
  pub address_in : address < 65536
  pub kind_in : kind ≤ 5
  pub few : length bytes < 256
  pub fit : IsBytes bytes
  pub count : count_fits kind (length bytes) ≡ true

abbrev sum_byte : List ℕ → ℕ
sum_byte bytes = (256 - sum bytes % 256) % 256

bytes_append : (xs ys : List ℕ) → IsBytes xs → IsBytes ys → IsBytes (xs ++ ys)
bytes_append [] ys h g k = g k
bytes_append (x ∷ xs) ys h g zero = h 0
bytes_append (x ∷ xs) ys h g (suc k) = bytes_append xs ys (λ i. h (suc i)) g k

byte_alone : (b : ℕ) → b < 256 → IsBytes (b ∷ [])
byte_alone b h zero = h
byte_alone b h (suc k) = lit< tt

bytes_cons : (b : ℕ) (xs : List ℕ) → b < 256 → IsBytes xs → IsBytes (b ∷ xs)
bytes_cons b xs h g zero = h
bytes_cons b xs h g (suc k) = g k

line_bytes_fit : (address kind : ℕ) (bytes : List ℕ) → IsLine address kind bytes → IsBytes (with_sum (line_body address kind bytes))
line_bytes_fit address kind bytes is =
    let in_range = is.address_in in
    let kinds = is.kind_in in
    bytes_append (line_body address kind bytes) (sum_byte (line_body address kind bytes) ∷ [])
    (bytes_cons (length bytes) ((address / 256) ∷ (address % 256) ∷ kind ∷ bytes) is.few
    (bytes_cons (address / 256) ((address % 256) ∷ kind ∷ bytes) (omega arith)
    (bytes_cons (address % 256) (kind ∷ bytes) (omega arith) (bytes_cons kind bytes (omega arith) is.fit))))
    (byte_alone (sum_byte (line_body address kind bytes)) (omega arith))

-- all after the `:` are digits
pub digits_of_line : (address kind : ℕ) (bytes : List ℕ) → IsLine address kind bytes → list_all is_hex_digit (encode_upper (with_sum (line_body address kind bytes))) ≡ true
digits_of_line address kind bytes is = digits_pass (with_sum (line_body address kind bytes)) (line_bytes_fit address kind bytes is)

whole_sum : (s : ℕ) → (s + (256 - s % 256) % 256) % 256 ≡ 0
whole_sum s = omega arith

line_sum : (xs : List ℕ) → sum (with_sum xs) % 256 ≡ 0
line_sum xs = ap (λ (n : ℕ). n % 256) (sum_by_push (λ (x : ℕ). x) xs (sum_byte xs)) ∙ whole_sum (sum xs)

pub length-line : (address kind : ℕ) (bytes : List ℕ) → length (with_sum (line_body address kind bytes)) ≡ length bytes + 5
length-line address kind bytes = let e = length-append (line_body address kind bytes) (sum_byte (line_body address kind bytes) ∷ []) in omega arith

line_checked : (address kind : ℕ) (bytes : List ℕ) → IsLine address kind bytes
    → checked_line (with_sum (line_body address kind bytes)) ≡ Ok (with_sum (line_body address kind bytes))
unfolding checked_line
line_checked address kind bytes is =
    let len = length-line address kind bytes in
    let long : leb 5 (length (with_sum (line_body address kind bytes))) ≡ true = le-leb 5 (length (with_sum (line_body address kind bytes))) (omega arith) in
    let counted : eqb (length (with_sum (line_body address kind bytes))) (length bytes + 5) ≡ true = eq-eqb _ _ len in
    let summed : eqb (sum (with_sum (line_body address kind bytes)) % 256) 0 ≡ true = eq-eqb _ _ (line_sum (line_body address kind bytes)) in
    let known : ltb 5 kind ≡ false = le-ltb 5 kind is.kind_in in
    let fits = is.count in
    rw (long, counted, summed, known, fits) refl

-- a line with a `:` before the end line is read
started : (s : HexState) (digits : List ℕ) → s.ended ≡ false
    → after_line s (58 ∷ digits) ≡ (bytes_of (58 ∷ digits) >>= λ bytes. checked_line bytes >>= λ same. after_bytes s same)
unfolding after_line
started s digits running = cond-false s.ended (Err AfterEnd) _ running

-- a written line has the effect of its bytes
pub line_taken : (s : HexState) (address kind : ℕ) (bytes : List ℕ) → IsLine address kind bytes → s.ended ≡ false
    → after_line s (hex_line address kind bytes) ≡ after_bytes s (with_sum (line_body address kind bytes))
unfolding hex_line
line_taken s address kind bytes is running =
    let read = bytes_back (with_sum (line_body address kind bytes)) (line_bytes_fit address kind bytes is) in
    let good = line_checked address kind bytes is in
    started s (encode_upper (with_sum (line_body address kind bytes))) running ∙ rw (read, good) refl

-- ---- a line that is cut

-- what begins the digits of bytes is the digits of the first of them, or odd
record Front (digits all : List ℕ) : Type 0 where
  front : List ℕ
  back : List ℕ
  joined : all ≡ front ++ back
  same : digits ≡ encode_upper front

cut_digits : (digits rest all : List ℕ) → digits ++ rest ≡ encode_upper all → (length digits % 2 ≡ 1) ⊎ Front digits all
unfolding encode_with
cut_digits [] rest all e = inr (record { front = []; back = all; joined = refl; same = refl })
cut_digits (x ∷ []) rest all e = inl refl
cut_digits (x ∷ y ∷ digits) rest [] e = cc e
cut_digits (x ∷ y ∷ digits) rest (b ∷ all) e =
    let later : digits ++ rest ≡ encode_upper all = cc e in
    let first : x ≡ get_or upper_digits (b / 16) 0 = cc e in
    let second : y ≡ get_or upper_digits (b % 16) 0 = cc e in
    elim (cut_digits digits rest all later) [
      | inl odd ↦ inl (omega arith)
      | inr f ↦ inr (record {
        front = b ∷ f.front;
        back = f.back;
        joined = ap (λ (t : List ℕ). b ∷ t) f.joined;
        same = cc f.same;
      })
    ]

bytes_first : (xs ys : List ℕ) → IsBytes (xs ++ ys) → IsBytes xs
bytes_first [] ys h k = lit< tt
bytes_first (x ∷ xs) ys h zero = h 0
bytes_first (x ∷ xs) ys h (suc k) = bytes_first xs ys (λ i. h (suc i)) k

bytes_in : (all xs ys : List ℕ) → all ≡ xs ++ ys → IsBytes all → IsBytes xs
bytes_in all xs ys e h = bytes_first xs ys (let P : List ℕ → Type 0 = λ t. IsBytes t in subst P e h)

odd_refused : (digits : List ℕ) → length digits % 2 ≡ 1 → (e : HexFault) × (bytes_of (58 ∷ digits) ≡ Err e)
odd_refused digits odd =
    let bad : told (λ e. BadCount) (decode_of digits) ≡ Err BadCount = (let h : eqb (length digits % 2) 1 ≡ true = eq-eqb _ _ odd in rw h refl) in
    elim (cases_Bool (list_all is_hex_digit digits)) [
      | inl all ↦ (BadCount, begun digits ∙ (rw (all, bad) refl))
      | inr some ↦ (BadDigit, begun digits ∙ (rw some refl))
    ]

short_refused : (front : List ℕ) → (0 < length front → length front < get_or front 0 0 + 5) → checked_line front ≡ Err BadCount
unfolding checked_line
short_refused front short = elim (cases_lt (length front) 5) [
  | inl few ↦ (let h : leb 5 (length front) ≡ false = lt-leb 5 (length front) few in rw h refl)
  | inr many ↦
      (let less = short (omega arith) in
      let h : leb 5 (length front) ≡ true = le-leb 5 (length front) many in
      let g : eqb (length front) (get_or front 0 0 + 5) ≡ false = ne_eqb _ _ (λ same. omega arith) in rw (h, g) refl)
]

some_there : (xs : List ℕ) → xs ≢ [] → 0 < length xs
some_there [] h = absurd (h refl)
some_there (x ∷ xs) h = omega arith

first_is : (front back : List ℕ) (n : ℕ) (more : List ℕ) → n ∷ more ≡ front ++ back → 0 < length front → get_or front 0 0 ≡ n
first_is [] back n more e lt = absurd (omega arith)
first_is (x ∷ front) back n more e lt = cc e

front_refused : (n : ℕ) (more front back : List ℕ) → length (n ∷ more) ≡ n + 5 → n ∷ more ≡ front ++ back → back ≢ [] → checked_line front ≡ Err BadCount
front_refused n more front back len joined some =
    let total = length-append front back in
    let same = ap (λ (t : List ℕ). length t) joined in
    let left = some_there back some in
    short_refused front (λ lt. let e = first_is front back n more joined lt in omega arith)

-- a line that is cut after its `:` or later has no effect
pub cut_refused : (s : HexState) (address kind : ℕ) (bytes cut rest : List ℕ) (u : HexState) → IsLine address kind bytes → cut ++ rest ≡ hex_line address kind bytes
    → cut ≢ [] → rest ≢ [] → s.ended ≡ false → after_line s cut ≡ Ok u → ⊥
unfolding hex_line
cut_refused s address kind bytes [] rest u is e some left running taken = some refl
cut_refused s address kind bytes (c ∷ digits) rest u is e some left running taken =
    let colon : c ≡ 58 = cc e in
    let joined : digits ++ rest ≡ encode_upper (with_sum (line_body address kind bytes)) = cc e in
    let read : (bytes_of (58 ∷ digits) >>= λ bytes. checked_line bytes >>= λ same. after_bytes s same) ≡ Ok u =
    sym (started s digits running) ∙ ap (λ (first : ℕ). after_line s (first ∷ digits)) (sym colon) ∙ taken in
    elim (cut_digits digits rest (with_sum (line_body address kind bytes)) joined) [
      | inl odd ↦ (let bad = odd_refused digits odd in cc (rw bad.1 at read))
      | inr f ↦
          (let fits = bytes_in (with_sum (line_body address kind bytes)) f.front f.back f.joined (line_bytes_fit address kind bytes is) in
          let back_some : f.back ≢ [] = (λ gone.
          let all : with_sum (line_body address kind bytes) ≡ f.front = f.joined ∙ ap (λ (t : List ℕ). f.front ++ t) gone ∙ append-nil f.front in
          let whole : digits ++ rest ≡ digits ++ [] = joined ∙ ap (λ (t : List ℕ). encode_upper t) all ∙ sym f.same ∙ sym (append-nil digits) in
          left (append_cancel_left digits rest [] whole)) in
          let bytes_are : bytes_of (58 ∷ digits) ≡ Ok f.front = ap (λ (t : List ℕ). bytes_of (58 ∷ t)) f.same ∙ bytes_back f.front fits in
          let bad = front_refused (length bytes) ((address / 256) ∷ (address % 256) ∷ kind ∷ (bytes ++ sum_byte (line_body address kind bytes) ∷ [])) f.front f.back
          (length-line address kind bytes) f.joined back_some in
          cc (rw (bytes_are, bad) at read))
    ]
