use Rattle.std.proofs.Common.{◌≡◌, ◌∙◌, sym, ◌^◌, ◌<◌, arith, length, nat_lt, rules}
use Rattle.std.specs.List.{list_all}
use Rattle.std.proofs.lemmas.Bool.{and_parts}
use Rattle.std.proofs.lemmas.Grind.{common_steps}
use Rattle.c25_meaning_common.specs.Digits.{digit, value_in, hexadecimal_of}
use Rattle.c25_texts.proofs.FourDigits.{four_digits}
use Rattle.c25_texts.proofs.numbers.hexadecimal_of.Goals as goal

small : (c : goal.After-value_in) → value_in 16 c.args.word.now < 2 ^ 16
small c =
    four_digits c.args.word.now c.if-word-le-MOST_DIGITS.true
    (and_parts (nat_lt 0 (length c.args.word.now)) (list_all (λ b. nat_lt (digit b) 16) c.args.word.now) (sym c.are_digits.ensures ∙ c.if-are_digits.true)).1

exact : (c : goal.After-value_in) → c.value_in.result ≡ value_in 16 c.args.word.now
exact c = let s = small c in let e = c.value_in.ensures in grind (arith, s, e)

pub overflow_cast-result : goal.overflow_cast-result
overflow_cast-result c = let s = small c in let e = exact c in omega (arith, s, e)

pub returns-then-word-le-MOST_DIGITS : goal.returns-then-word-le-MOST_DIGITS
unfolding hexadecimal_of
returns-then-word-le-MOST_DIGITS c =
    let e = exact c in
    let digits = sym c.are_digits.ensures ∙ c.if-are_digits.true in
    let low = c.if-least-word.true in
    let high = c.if-word-le-MOST_DIGITS.true in
    grind (arith, common_steps, e, digits, low, high)

pub returns-else-are_digits : goal.returns-else-are_digits
unfolding hexadecimal_of
returns-else-are_digits c = search rules
