-- Where a text may be cut: after or before an ASCII byte.
use Rattle.std.proofs.Common.{◌≡◌, ℕ, ◌+◌, ◌-◌, ◌<◌, ◌≤◌, max, Bool, true, false, List, length, get_or, drop, reverse, sym, subst, ◌∙◌, ap, inl, inr, arith}
use Rattle.std.specs.List.{prefix_len, suffix_len}
use Rattle.std.specs.Str.{IsUtf8, IsCharBoundary}
use Rattle.std.proofs.lemmas.Str.{IsCharBoundary-before_ascii, IsCharBoundary-after_ascii, IsCharBoundary-start, IsCharBoundary-end}
use Rattle.std.proofs.lemmas.Bool.{cases_lt}
use Rattle.std.proofs.lemmas.Bool.Decides.{nat_tests}
use Rattle.std.proofs.lemmas.List.{get_or-drop, get_or_past, get_or-reverse, length-drop}
use Rattle.std.proofs.lemmas.List.Sums.{prefix_len_passes, prefix_len_stops, prefix_len-le-length, suffix_len-le-length}
use Rattle.c25_meaning_common.specs.Bytes.{is_blank, is_letter_or_digit, goes_on_name}
use Rattle.c25_meaning_language.specs.Fragments.{is_beyond_ascii}

-- after a run of ASCII bytes of one kind
run_cut : (p : ℕ → Bool) → ((b : ℕ) → p b ≡ true → b < 128) → (text : List ℕ) → IsUtf8 text → IsCharBoundary text (prefix_len p text)
run_cut p ascii text u =
    let n : ℕ = prefix_len p text in
    let within : n ≤ length text = prefix_len-le-length p text in
    elim (cases_lt 0 n) [
      | inl some ↦
          let place : n - 1 + 1 ≡ n = omega (arith, some) in
          subst (IsCharBoundary text) place (IsCharBoundary-after_ascii text (n - 1) u (omega (arith, some, within)) (ascii _ (prefix_len_passes p text (n - 1) 0 (omega (arith, some)))))
      | inr none ↦ let same : 0 ≡ n = omega (arith, none) in subst (IsCharBoundary text) same (IsCharBoundary-start text u)
    ]

constant_ascii : (b : ℕ) → is_letter_or_digit b ≡ true → b < 128
constant_ascii b h = grind (arith, nat_tests)

name_ascii : (b : ℕ) → goes_on_name b ≡ true → b < 128
name_ascii b h = grind (arith, nat_tests)

pub constant_cut : (text : List ℕ) → IsUtf8 text → IsCharBoundary text (prefix_len is_letter_or_digit text)
constant_cut = run_cut is_letter_or_digit constant_ascii

pub name_cut : (text : List ℕ) → IsUtf8 text → IsCharBoundary text (prefix_len goes_on_name text)
name_cut = run_cut goes_on_name name_ascii

beyond_ends : (b : ℕ) → is_beyond_ascii b ≡ false → b < 128
beyond_ends b h = grind (arith, nat_tests)

-- after a character, or some beyond ASCII
pub character_cut : (text : List ℕ) → IsUtf8 text → 0 < length text → IsCharBoundary text (max (prefix_len is_beyond_ascii text) 1)
character_cut text u h =
    let n : ℕ = prefix_len is_beyond_ascii text in
    let within : n ≤ length text = prefix_len-le-length is_beyond_ascii text in
    elim (cases_lt 0 n) [
      | inl some ↦
          let same : n ≡ max n 1 = omega (arith, some) in
          subst (IsCharBoundary text) same (elim (cases_lt n (length text)) [
            | inl more ↦ IsCharBoundary-before_ascii text n more (beyond_ends _ (prefix_len_stops is_beyond_ascii text 0 more))
            | inr all ↦ let end : length text ≡ n = omega (arith, all, within) in subst (IsCharBoundary text) end (IsCharBoundary-end text)
          ])
      | inr none ↦
          let zero_run : n ≡ 0 = omega (arith, none) in
          let same : 0 + 1 ≡ max n 1 = omega (arith, zero_run) in
          let first : is_beyond_ascii (get_or text 0 0) ≡ false = ap (λ k. is_beyond_ascii (get_or text k 0)) (sym zero_run) ∙ prefix_len_stops is_beyond_ascii text 0 (omega (arith, zero_run, h)) in
          subst (IsCharBoundary text) same (IsCharBoundary-after_ascii text 0 u h (beyond_ends _ first))
    ]

-- after an ASCII byte and a name
pub behind_cut : (text : List ℕ) → IsUtf8 text → 0 < length text → get_or text 0 0 < 128 → IsCharBoundary text (prefix_len goes_on_name (drop 1 text) + 1)
behind_cut text u h ascii =
    let n : ℕ = prefix_len goes_on_name (drop 1 text) in
    let within : n ≤ length (drop 1 text) = prefix_len-le-length goes_on_name (drop 1 text) in
    elim (cases_lt 0 n) [
      | inl some ↦
          let place : 1 + (n - 1) + 1 ≡ n + 1 = omega (arith, some) in
          let last : n - 1 < n = omega (arith, some) in
          subst (IsCharBoundary text) place (IsCharBoundary-after_ascii text (1 + (n - 1)) u (omega (arith, some, within, length-drop 1 text))
          (name_ascii _ (ap goes_on_name (sym (get_or-drop 1 text (n - 1) 0)) ∙ prefix_len_passes goes_on_name (drop 1 text) (n - 1) 0 (omega (arith, some)))))
      | inr none ↦ let same : 0 + 1 ≡ n + 1 = omega (arith, none) in subst (IsCharBoundary text) same (IsCharBoundary-after_ascii text 0 u h ascii)
    ]

-- where a byte is not 0, there is one
pub byte_within : (text : List ℕ) (i : ℕ) → 0 < get_or text i 0 → i < length text
byte_within text i h = elim (cases_lt i (length text)) [ inl less ↦ less | inr past ↦ absurd (let e : get_or text i 0 ≡ 0 = get_or_past text i 0 past in omega (arith, h, e)) ]

blank_ascii : (b : ℕ) → is_blank b ≡ true → b < 128
blank_ascii b h = grind (arith, nat_tests)

-- before the blanks at the end
pub tail_cut : (text : List ℕ) → IsCharBoundary text (length text - suffix_len is_blank text)
tail_cut text =
    let n : ℕ = suffix_len is_blank text in
    let within : n ≤ length text = suffix_len-le-length is_blank text in
    elim (cases_lt 0 n) [
      | inl some ↦
          let passes : is_blank (get_or (reverse text) (n - 1) 0) ≡ true = prefix_len_passes is_blank (reverse text) (n - 1) 0 (omega (arith, some)) in
          let place : length text - 1 - (n - 1) ≡ length text - n = omega (arith, some, within) in
          let byte = get_or-reverse text (n - 1) 0 (omega (arith, some, within)) ∙ ap (λ i. get_or text i 0) place in
          IsCharBoundary-before_ascii text (length text - n) (omega (arith, some, within)) (blank_ascii _ (ap is_blank (sym byte) ∙ passes))
      | inr none ↦ let same : length text ≡ length text - n = omega (arith, none) in subst (IsCharBoundary text) same (IsCharBoundary-end text)
    ]
