-- At most four hexadecimal digits are below 2^16.
use Rattle.std.proofs.Common.{◌≡◌, ℕ, ◌+◌, ◌*◌, ◌^◌, ◌<◌, ◌≤◌, arith, List, [], ◌∷◌, length, fold, nat_lt, true, lit≤}
use Rattle.std.specs.List.{list_all}
use Rattle.std.proofs.lemmas.Bool.{and_parts, ltb-true}
use Rattle.c25_meaning_common.specs.Digits.{digit, value_in}

-- what digits after a number up to m are at most
most_behind : ℕ → List ℕ → ℕ
most_behind m [] = m
most_behind m (b ∷ word) = most_behind (m * 16 + 15) word

at_most : (v m : ℕ) (word : List ℕ) → v ≤ m → list_all (λ b. nat_lt (digit b) 16) word ≡ true → fold (λ v b. v * 16 + digit b) v word ≤ most_behind m word
unfolding most_behind
at_most v m [] l h = l
at_most v m (b ∷ word) l h =
    let parts = and_parts (nat_lt (digit b) 16) (list_all (λ b. nat_lt (digit b) 16) word) h in
    let small = ltb-true (digit b) 16 parts.0 in
    at_most (v * 16 + digit b) (m * 16 + 15) word (omega arith) parts.1

four : (word : List ℕ) → length word ≤ 4 → most_behind 0 word ≤ 65535
unfolding most_behind
four [] l = lit≤ tt
four (a ∷ []) l = lit≤ tt
four (a ∷ b ∷ []) l = lit≤ tt
four (a ∷ b ∷ c ∷ []) l = lit≤ tt
four (a ∷ b ∷ c ∷ d ∷ []) l = lit≤ tt
four (a ∷ b ∷ c ∷ d ∷ e ∷ word) l = absurd (omega arith)

pub four_digits : (word : List ℕ) → length word ≤ 4 → list_all (λ b. nat_lt (digit b) 16) word ≡ true → value_in 16 word < 2 ^ 16
four_digits word l h = omega (arith, at_most 0 0 word (lit≤ tt) h, four word l)
