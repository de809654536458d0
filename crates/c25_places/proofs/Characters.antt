-- Where the character begins that has a byte of a text.
use Rattle.std.proofs.Common.{◌≡◌, ℕ, zero, suc, ◌-◌, ◌<◌, ◌≤◌, Bool, true, false, cond, List, get_or, refl, sym, ap, ◌∙◌, arith}
use Rattle.std.specs.Fmt.{is_char_start}
use Rattle.std.specs.Fmt.Cut.{floor_char_boundary}

-- a byte that begins no character is one of the character that has the byte before it
pub goes_on : (text : List ℕ) (n : ℕ) → 0 < n → is_char_start (get_or text n 0) ≡ false → floor_char_boundary text (n - 1) ≡ floor_char_boundary text n
unfolding floor_char_boundary
goes_on text zero l h = absurd (omega (arith, l))
goes_on text (suc n) l h =
    let same : suc n - 1 ≡ n = omega arith in
    ap (floor_char_boundary text) same ∙ sym (rw h refl)

-- a byte that begins a character is where that character begins
pub begins : (text : List ℕ) (n : ℕ) → is_char_start (get_or text n 0) ≡ true → floor_char_boundary text n ≡ n
unfolding floor_char_boundary
begins text zero h = refl
begins text (suc n) h = rw h refl

-- at the front of a text a character begins
pub at_front : (text : List ℕ) (n : ℕ) → n ≤ 0 → floor_char_boundary text n ≡ n
unfolding floor_char_boundary
at_front text zero l = refl
at_front text (suc n) l = absurd (omega (arith, l))

-- a character begins at its byte or before it
pub floor_before : (text : List ℕ) (n : ℕ) → floor_char_boundary text n ≤ n
unfolding floor_char_boundary
floor_before text zero = omega arith
floor_before text (suc n) = by (is_char_start (get_or text (suc n) 0)) (floor_before text n)
  where
    by : (b : Bool) → floor_char_boundary text n ≤ n → cond b (suc n) (floor_char_boundary text n) ≤ suc n
    by true more = omega arith
    by false more = omega (arith, more)
