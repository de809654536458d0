-- One bit of many words, and all others, before and after it is written.
use Rattle.std.proofs.Common.{◌≡◌, ◌≢◌, ℕ, ◌/◌, ◌%◌, ◌^◌, ◌<◌, inl, inr, ◌∙◌, ap, sym, false, not, eqb, List, length, get_or, set, replicate, bit_and, bit_or, subst, w64, arith, eq-eqb, ne_eqb, get_or-set_same, get_or-set_other}
use Rattle.std.proofs.lemmas.Bool.{cases_eq, cases_lt}
use Rattle.std.proofs.lemmas.List.{get_or-replicate, get_or_past, length-replicate}
use Rattle.std.proofs.lemmas.Nat.{one_shl, pow_pos}
use Rattle.std.proofs.lemmas.Nat.Bits.{bit_at-zero, and_pow, bit_at_set_same, bit_at_set_other, bit_at_clear_same, bit_at_clear_other}
use Rattle.std.specs.Int.{bit_at, bit_not}
use Rattle.c25_board.specs.Bits.{bit_of}

-- a word among words that are 0, or beyond them
zero_word : (count i : ℕ) → get_or {A = ℕ} (replicate count 0) i 0 ≡ 0
zero_word count i =
    elim (cases_lt i count) [
      | inl within ↦ get_or-replicate count i 0 0 within
      | inr past ↦ get_or_past (replicate count 0) i 0 (omega (arith, length-replicate {A = ℕ} count 0))
    ]

-- words that are 0 have no bit
pub no_bit : (count address : ℕ) → bit_of (replicate count 0) address ≡ false
no_bit count address =
    ap (λ word. eqb (bit_at word (address % 64)) 1) (zero_word count (address / 64))
    ∙ ap (λ bit. eqb bit 1) (bit_at-zero (address % 64))

-- the test `word & 1 << k != 0`
pub bit_shows : (word k : ℕ) → not (eqb (bit_and word (2 ^ k)) 0) ≡ eqb (bit_at word k) 1
bit_shows word k =
    let bit : ℕ = bit_at word k in
    elim (cases_eq bit 1) [
      | inl one ↦
          let some : 0 < bit_and word (2 ^ k) = rw (and_pow word k, one) (omega (arith, pow_pos k)) in
          ap not (ne_eqb _ 0 (omega arith)) ∙ sym (eq-eqb bit 1 one)
      | inr other ↦
          let none : bit ≡ 0 = omega arith in
          ap not (eq-eqb _ 0 (rw (and_pow word k, none) (omega arith))) ∙ sym (ne_eqb bit 1 other)
    ]

-- `word | 1 << k` has bit k, and the other bits of the word
pub set_same : (word k : ℕ) → k < 64 → bit_at (bit_or word (2 ^ k)) k ≡ 1
set_same word k within = subst (λ (mask : ℕ). bit_at (bit_or word mask) k ≡ 1) (one_shl k 64 within) (bit_at_set_same w64 word k within)

pub set_other : (word k : ℕ) → k < 64 → (i : ℕ) → i ≢ k → bit_at (bit_or word (2 ^ k)) i ≡ bit_at word i
set_other word k within i apart =
    subst (λ (mask : ℕ). bit_at (bit_or word mask) i ≡ bit_at word i) (one_shl k 64 within) (bit_at_set_other w64 word k within i apart)

-- `word & !(1 << k)` lacks bit k, and has the other bits of the word
pub clear_same : (word k : ℕ) → k < 64 → bit_at (bit_and word (bit_not w64 (2 ^ k))) k ≡ 0
clear_same word k within =
    subst (λ (mask : ℕ). bit_at (bit_and word (bit_not w64 mask)) k ≡ 0) (one_shl k 64 within) (bit_at_clear_same w64 word k within)

pub clear_other : (word k : ℕ) → k < 64 → (i : ℕ) → i < 64 → i ≢ k → bit_at (bit_and word (bit_not w64 (2 ^ k))) i ≡ bit_at word i
clear_other word k within i below apart =
    subst (λ (mask : ℕ). bit_at (bit_and word (bit_not w64 mask)) i ≡ bit_at word i) (one_shl k 64 within) (bit_at_clear_other w64 word k within i below apart)

-- the bit of an address after its word is written
pub same_after : (words : List ℕ) (address word : ℕ) → address / 64 < length words → bit_of (set words (address / 64) word) address ≡ eqb (bit_at word (address % 64)) 1
same_after words address word within =
    ap (λ w. eqb (bit_at w (address % 64)) 1) (get_or-set_same words (address / 64) word 0 within)

-- the bit of another address after a word is written that has the other bits of the one before
pub others_after : (words : List ℕ) (address word : ℕ) → address / 64 < length words → ((i : ℕ) → i < 64 → i ≢ address % 64 → bit_at word i ≡ bit_at (get_or words (address / 64) 0) i) → (other : ℕ) → other ≢ address → bit_of (set words (address / 64) word) other ≡ bit_of words other
others_after words address word within stay other apart =
    elim (cases_eq (other / 64) (address / 64)) [
      | inl row ↦
          ap (λ i. eqb (bit_at (get_or (set words (address / 64) word) i 0) (other % 64)) 1) row
          ∙ ap (λ w. eqb (bit_at w (other % 64)) 1) (get_or-set_same words (address / 64) word 0 within)
          ∙ ap (λ bit. eqb bit 1) (stay (other % 64) (omega arith) (omega arith))
          ∙ ap (λ i. eqb (bit_at (get_or words i 0) (other % 64)) 1) (sym row)
      | inr elsewhere ↦ ap (λ w. eqb (bit_at w (other % 64)) 1) (get_or-set_other words (address / 64) (other / 64) word 0 elsewhere)
    ]
