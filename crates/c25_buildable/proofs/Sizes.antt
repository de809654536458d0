-- How many words rows have.
use Rattle.std.proofs.Common.{◌≡◌, ℕ, zero, suc, ◌+◌, ◌<◌, ◌≤◌, List, [], ◌∷◌, length, get_or, take, ap, arith, length-append}
use Rattle.c25_layout.specs.Layout.{item_words, rows_words}
use Rattle.c25_layout.specs.declared.layout.Row.{Row}

-- the words of a row, after those before it, are among the words of all
pub fits : (rows : List Row) (index : ℕ) (r : Row) → index < length rows → r ≡ get_or rows index r → length (rows_words (take index rows)) + length (item_words r.item) ≤ length (rows_words rows)
fits [] index r less is = absurd (omega (arith, less))
fits (x ∷ rows) zero r less is =
    let all = length-append (item_words x.item) (rows_words rows) in
    let same = ap (λ (y : Row). length (item_words y.item)) is in
    omega (arith, all, same)
fits (x ∷ rows) (suc index) r less is =
    let all = length-append (item_words x.item) (rows_words rows) in
    let before = length-append (item_words x.item) (rows_words (take index rows)) in
    let rest = fits rows index r (omega (arith, less)) is in
    omega (arith, all, before, rest)
