-- Counts in ten columns.
use Rattle.std.proofs.Common.{◌≡◌, ℕ, zero, suc, ◌-◌, ◌^◌, List, [], ◌∷◌, ◌++◌, length, replicate, false, refl, ap, Some, arith}
use Rattle.std.proofs.lemmas.List.{append-nil}
use Rattle.std.proofs.lemmas.Str.{encode_ascii}
use Rattle.std.specs.Fmt.{decimal, padded_integral, format_spec, char_count}
use Rattle.std.specs.List.{repeat}
use Rattle.std.proofs.Math.Utf8.{encode}
use Rattle.c25_coverage.specs.List.{count_column}

repeat_blanks : (k : ℕ) → repeat {A = ℕ} k (32 ∷ []) ≡ replicate k 32
repeat_blanks zero = refl
repeat_blanks (suc k) = ap (λ xs. 32 ∷ xs) (repeat_blanks k)

blank_byte : encode 32 ≡ 32 ∷ []
blank_byte = encode_ascii 32 (omega arith)

filled : (p q : ℕ) (digits : List ℕ) → p ≡ q → (repeat {A = ℕ} p (encode 32) ++ [] ++ [] ++ []) ++ (digits ++ repeat {A = ℕ} (p - p) (encode 32)) ≡ replicate q 32 ++ digits
filled p q digits is =
    let none : p - p ≡ 0 = omega arith in
    rw (none, is, blank_byte, repeat_blanks q) (simp append-nil)

-- a count in ten columns
pub ten_columns : (n : ℕ) → padded_integral (format_spec 32 0 0 10 (2 ^ 64 - 1)) false [] (decimal n) ≡ count_column (Some n)
unfolding padded_integral char_count
ten_columns n = filled (10 - length (decimal n) - 0 - 0) (10 - length (decimal n)) (decimal n) (omega arith)
