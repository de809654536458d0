use Rattle.std.proofs.Common.{ℕ, zero, suc, ◌+◌, ◌≤◌, Bool, true, false, cond, List, arith}
use Rattle.c25_meaning_linking.specs.Place.{Place}
use Rattle.c25_symbols.specs.Used.{is_used, used_from}
use Rattle.c25_symbols.proofs.laws.used_words_are_words_of_their_range.Goals as goal

one_at_most : (b : Bool) → cond b 1 0 ≤ 1
one_at_most true = omega arith
one_at_most false = omega arith

within : (page : ℕ) (places : List Place) (origin n : ℕ) → used_from page places origin n ≤ n
within page places origin zero = omega arith
within page places origin (suc n) = let before = within page places origin n in let here = one_at_most (is_used page places (origin + n)) in omega (arith, before, here)

pub returns : goal.returns
returns c = λ places r. within r.page places r.origin r.size
