-- Words of a row one by one, and rows of a memory line by line.
use Rattle.std.proofs.Common.{◌≡◌, ℕ, suc, ◌+◌, ◌-◌, ◌*◌, ◌<◌, ◌++◌, List, min, codes, sym, ap, ◌∙◌, append_assoc, arith}
use Rattle.c25_meaning_common.specs.Digits.{four_digits}
use Rattle.c25_meaning_debugger.specs.Texts.{spaced, words_from, words_line, words_lines}

pub row_more : (f : ℕ → ℕ) (a n i : ℕ) (text next all : List ℕ) → i < n → next ≡ text ++ (codes " " ++ four_digits (f (a + i)))
    → text ++ spaced (words_from f (a + i) (n - i)) ≡ all → next ++ spaced (words_from f (a + (i + 1)) (n - (i + 1))) ≡ all
row_more f a n i text next all lt e h =
    let k : n - i ≡ suc (n - (i + 1)) = omega arith in
    let m : a + i + 1 ≡ a + (i + 1) = omega arith in
    let word = codes " " ++ four_digits (f (a + i)) in
    let rest = spaced (words_from f (a + (i + 1)) (n - (i + 1))) in
    let split : spaced (words_from f (a + i) (n - i)) ≡ word ++ rest =
    ap (λ j. spaced (words_from f (a + i) j)) k ∙ ap (λ b. word ++ spaced (words_from f b (n - (i + 1)))) m in
    ap (λ t. t ++ rest) e ∙ append_assoc text word rest ∙ ap (λ r. text ++ r) (sym split) ∙ h

pub lines_more : (f : ℕ → ℕ) (a n lines i base size : ℕ) (text next all : List ℕ) → i < lines → base ≡ a → size ≡ min 8 (n - 8 * i) → next ≡ text ++ words_line f (base + 8 * i) size
    → text ++ words_lines f (lines - i) (a + 8 * i) (n - 8 * i) ≡ all → next ++ words_lines f (lines - (i + 1)) (a + 8 * (i + 1)) (n - 8 * (i + 1)) ≡ all
lines_more f a n lines i base size text next all lt there fits e h =
    let k : lines - i ≡ suc (lines - (i + 1)) = omega arith in
    let m : a + 8 * i + 8 ≡ a + 8 * (i + 1) = omega arith in
    let left : n - 8 * i - 8 ≡ n - 8 * (i + 1) = omega arith in
    let line = words_line f (a + 8 * i) (min 8 (n - 8 * i)) in
    let rest = words_lines f (lines - (i + 1)) (a + 8 * (i + 1)) (n - 8 * (i + 1)) in
    let same : words_line f (base + 8 * i) size ≡ line = ap (λ b. words_line f (b + 8 * i) size) there ∙ ap (λ j. words_line f (a + 8 * i) j) fits in
    let split : words_lines f (lines - i) (a + 8 * i) (n - 8 * i) ≡ line ++ rest =
    ap (λ j. words_lines f j (a + 8 * i) (n - 8 * i)) k ∙ ap (λ b. line ++ words_lines f (lines - (i + 1)) b (n - 8 * i - 8)) m
    ∙ ap (λ j. line ++ words_lines f (lines - (i + 1)) (a + 8 * (i + 1)) j) left in
    ap (λ t. t ++ rest) (e ∙ ap (λ l. text ++ l) same) ∙ append_assoc text line rest ∙ ap (λ r. text ++ r) (sym split) ∙ h
