-- Room for the operands that wait, where there is less of it than for the deepest expression.
use Rattle.std.proofs.Common.{◌≡◌, ℕ, ◌+◌, ◌≤◌, ◌<◌, true, ◌||◌, nat_lt, nat_le, List, [], length, drop, refl, ap, ◌∙◌, arith, ⊎_elim}
use Rattle.std.proofs.lemmas.Bool.{and_parts, ltb-true, leb-true, le-leb, or_cases}
use Rattle.std.proofs.lemmas.List.{length-drop}
use Rattle.std.proofs.Math.Bool.{or-true}
use Rattle.c25_meaning_language.specs.Reading.{PostfixItem, Push, Wrap, Apply, Combine}
use Rattle.c25_expr.specs.Postfix.{fits, height, is_room, most_waiting, with_result}

-- an item lets at most one operand more wait
height_most : (i : PostfixItem) (n : ℕ) → height i n ≤ n + 1
height_most (Push l) n = omega arith
height_most Wrap n = omega arith
height_most (Apply op) n = omega arith
height_most (Combine op) n = omega arith

-- where an item finds its operands, its result finds room
pub room_found : (room n count : ℕ) (i : PostfixItem) → fits i n ≡ true → is_room room (n + count) ≡ true → 0 < count → with_result i n ≤ room
room_found room n count i h enough some =
    ⊎_elim (λ all. deep (leb-true most_waiting room all) i h) (λ few. shallow (omega (arith, leb-true (n + count) room few, some)) i) (or_cases (nat_le most_waiting room) (nat_le (n + count) room) enough)
  where
    deep : most_waiting ≤ room → (j : PostfixItem) → fits j n ≡ true → with_result j n ≤ room
    deep all (Push l) h = omega (arith, all, ltb-true n most_waiting h)
    deep all Wrap h = omega arith
    deep all (Apply op) h = omega (arith, all, leb-true n most_waiting (and_parts (nat_lt 0 n) (nat_le n most_waiting) h).1)
    deep all (Combine op) h = omega (arith, all, leb-true n most_waiting (and_parts (nat_lt 1 n) (nat_le n most_waiting) h).1)

    shallow : n + 1 ≤ room → (j : PostfixItem) → with_result j n ≤ room
    shallow few (Push l) = few
    shallow few Wrap = omega arith
    shallow few (Apply op) = omega (arith, few)
    shallow few (Combine op) = omega (arith, few)

-- after an item there is room for the items that are left
pub room_left : (room n count : ℕ) (i : PostfixItem) → is_room room (n + (count + 1)) ≡ true → is_room room (height i n + count) ≡ true
room_left room n count i enough =
    ⊎_elim (λ all. rw all refl)
    (λ few. ap (λ b. nat_le most_waiting room || b) (le-leb (height i n + count) room (omega (arith, height_most i n, leb-true (n + (count + 1)) room few))) ∙ or-true (nat_le most_waiting room))
    (or_cases (nat_le most_waiting room) (nat_le (n + (count + 1)) room) enough)

-- one item fewer is left after an item
pub one_more : {A : Type 0} (xs : List A) (i : ℕ) → i < length xs → length (drop i xs) ≡ length (drop (i + 1) xs) + 1
one_more xs i h = omega (arith, h, length-drop i xs, length-drop (i + 1) xs)

-- where an item is left, some are
pub some_left : {A : Type 0} (xs : List A) (i : ℕ) → i < length xs → 0 < length (drop i xs)
some_left xs i h = omega (arith, h, length-drop i xs)

-- before the first item
pub at_first : {A B : Type 0} (room : ℕ) (vs : List A) (xs ys : List B) → vs ≡ [] → xs ≡ ys → is_room room (length ys) ≡ true → is_room room (length vs + length xs) ≡ true
at_first room vs xs ys none same enough =
    ap (is_room room) (omega (arith, ap (λ us. length us) none, ap (λ us. length us) same)) ∙ enough
