-- Columns and lines of a listing.
use Rattle.std.proofs.Common.{◌≡◌, ℕ, zero, suc, ◌≤◌, ◌-◌, ◌+◌, ◌/◌, ◌%◌, ◌^◌, List, [], ◌∷◌, ◌++◌, length, replicate, false, refl, ap, sym, ◌∙◌, arith}
use Rattle.std.proofs.lemmas.List.{append_assoc, append-nil}
use Rattle.std.proofs.lemmas.Str.{encode_ascii}
use Rattle.std.specs.Fmt.{decimal, padded_integral, format_spec, char_count}
use Rattle.std.specs.List.{repeat}
use Rattle.std.proofs.Math.Utf8.{encode}
use Rattle.c25_meaning_assembly.specs.Listing.{blanks, entry_by, further, number_column, word_line, Entry}
use Rattle.c25_meaning_objects.specs.Module.{Contents}
use Rattle.c25_meaning_common.specs.Digits.{four_digits}

repeat_blanks : (k : ℕ) → repeat {A = ℕ} k (32 ∷ []) ≡ replicate k 32
repeat_blanks zero = refl
repeat_blanks (suc k) = ap (λ xs. 32 ∷ xs) (repeat_blanks k)

blank_byte : encode 32 ≡ 32 ∷ []
blank_byte = encode_ascii 32 (omega arith)

filled : (p q : ℕ) (digits : List ℕ) → p ≡ q → (repeat {A = ℕ} p (encode 32) ++ [] ++ [] ++ []) ++ (digits ++ repeat {A = ℕ} (p - p) (encode 32)) ≡ replicate q 32 ++ digits
filled p q digits is =
    let none : p - p ≡ 0 = omega arith in
    rw (none, is, blank_byte, repeat_blanks q) (simp append-nil)

-- a number in six columns
pub six_columns : (n : ℕ) → padded_integral (format_spec 32 0 0 6 (2 ^ 64 - 1)) false [] (decimal n) ≡ number_column n
unfolding padded_integral char_count
six_columns n = filled (6 - length (decimal n) - 0 - 0) (6 - length (decimal n)) (decimal n) (omega arith)

-- the digits of an offset are those of its low sixteen bits
pub low_digits : (n : ℕ) → four_digits (n % 65536) ≡ four_digits n
low_digits n =
    let a : n % 65536 / 256 / 16 % 16 ≡ n / 256 / 16 % 16 = omega arith in
    let b : n % 65536 / 256 % 16 ≡ n / 256 % 16 = omega arith in
    let c : n % 65536 / 16 % 16 ≡ n / 16 % 16 = omega arith in
    let d : n % 65536 % 16 ≡ n % 16 = omega arith in
    rw (a, b, c, d) refl

-- four texts appended to a line, one after another
pub four_behind : (l l1 l2 l3 l4 a b c d : List ℕ) → l1 ≡ l ++ a → l2 ≡ l1 ++ b → l3 ≡ l2 ++ c → l4 ≡ l3 ++ d → l4 ≡ l ++ (a ++ (b ++ (c ++ d)))
four_behind l l1 l2 l3 l4 a b c d first second third fourth =
    fourth ∙ ap (λ t. t ++ d) (third ∙ ap (λ t. t ++ c) (second ∙ ap (λ t. t ++ b) first)) ∙ simp append_assoc

-- the further words are the first of them and the rest
pub first_further : (m : Contents) (section offset next count rest : ℕ) → next ≡ offset + 1 → count ≡ suc rest
    → further m section offset count ≡ word_line m section offset (blanks 6) [] ++ further m section next rest
first_further m section offset next count rest one more = rw (one, more) refl

-- one further word, as it is printed
pub further_more : (m : Contents) (section first count index : ℕ) (out new start : List ℕ) → index + 1 ≤ count
    → new ≡ out ++ word_line m section (first + index) (blanks 6) []
    → out ++ further m section (first + index) (count - index) ≡ start
    → new ++ further m section (first + (index + 1)) (count - (index + 1)) ≡ start
further_more m section first count index out new start within is told =
    let rest = further m section (first + (index + 1)) (count - (index + 1)) in
    let next : first + (index + 1) ≡ first + index + 1 = omega arith in
    let more : count - index ≡ suc (count - (index + 1)) = omega arith in
    ap (λ t. t ++ rest) is ∙ append_assoc out (word_line m section (first + index) (blanks 6) []) rest
    ∙ ap (λ t. out ++ t) (sym (first_further m section (first + index) (first + (index + 1)) (count - index) (count - (index + 1)) next more)) ∙ told

-- an entry with words: that of its first word, then the further ones
pub entry_words : (m : Contents) (e : Entry) (n : ℕ) (out between new : List ℕ) → n ≡ e.count - 1 → 1 ≤ e.count
    → between ≡ out ++ word_line m e.section e.offset (number_column e.line) e.text
    → new ≡ between ++ further m e.section (e.offset + 1) n
    → new ≡ out ++ entry_by e.count m e
entry_words m e n out between new is some first second =
    let counted : e.count ≡ suc n = omega arith in
    second ∙ ap (λ t. t ++ further m e.section (e.offset + 1) n) first
    ∙ append_assoc out (word_line m e.section e.offset (number_column e.line) e.text) (further m e.section (e.offset + 1) n)
    ∙ ap (λ t. out ++ t) (sym (ap (λ k. entry_by k m e) counted))
