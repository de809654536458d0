-- A tree in postfix order finds its operands, and room for them.
use Rattle.std.proofs.Common.{◌≡◌, ℕ, ◌+◌, ◌-◌, ◌*◌, ◌≤◌, ◌<◌, max, true, ◌&&◌, nat_lt, nat_le, List, [], ◌∷◌, ◌++◌, reverse, refl, sym, ap, ◌∙◌, arith, append_assoc}
use Rattle.std.proofs.lemmas.Bool.{lt-ltb, le-leb}
use Rattle.std.proofs.lemmas.List.{append-nil, reverse-append}
use Rattle.c25_meaning_language.specs.Tree.{Tree, Single, Group, Unary, Binary, level, depth, IsGrouped}
use Rattle.c25_meaning_language.specs.Reading.{PostfixItem, Wrap, Apply, Combine}
use Rattle.c25_expr.specs.Postfix.{runs, fits, height, most_waiting}
use Rattle.c25_expr.proofs.Complete.{postfix, level_most}

-- how many operands wait at most while a tree is valued
abbrev need : Tree → ℕ
need (Single l) = 1
need (Group e) = need e
need (Unary op e) = need e
need (Binary op l r) = max (need l) (need r + 1)

-- each level of operators and each group lets at most so many wait
need_most : (e : Tree) → IsGrouped e → need e ≤ 8 * depth e + level e + 1
need_most (Single l) g = omega arith
need_most (Group e) g = omega (arith, need_most e g, level_most e)
need_most (Unary op e) g = omega (arith, need_most e g.1, level_most e)
need_most (Binary op l r) g = omega (arith, need_most l g.2, need_most r g.3, g.0, g.1)

need_some : (e : Tree) → 1 ≤ need e
need_some (Single l) = omega arith
need_some (Group e) = need_some e
need_some (Unary op e) = need_some e
need_some (Binary op l r) = omega (arith, need_some l)

and_true : (a b : ℕ) (c d : ℕ) → a < b → c ≤ d → (nat_lt a b && nat_le c d) ≡ true
and_true a b c d h k = rw (lt-ltb a b h, le-leb c d k) refl

snoc : (x : PostfixItem) (is rest : List PostfixItem) → reverse (x ∷ is) ++ rest ≡ reverse is ++ (x ∷ rest)
snoc x is rest = ap (λ (ks : List PostfixItem). ks ++ rest) (reverse-append (x ∷ []) is) ∙ append_assoc (reverse is) (x ∷ []) rest

runs_apply : (x : PostfixItem) (rest : List PostfixItem) (n : ℕ) → fits x (n + 1) ≡ true → height x (n + 1) ≡ n + 1 → runs rest (n + 1) ≡ true → runs (x ∷ rest) (n + 1) ≡ true
runs_apply x rest n room same h = rw (room, same, h) refl

-- a tree runs from any number of operands that leaves it room
runs_tree : (e : Tree) (rest : List PostfixItem) (n : ℕ) → n + need e ≤ most_waiting → runs rest (n + 1) ≡ true → runs (reverse (postfix e) ++ rest) n ≡ true
runs_tree (Single l) rest n room h = rw (lt-ltb n 521 (omega (arith, room)), h) refl
runs_tree (Group e) rest n room h =
    ap (λ (ks : List PostfixItem). runs ks n) (snoc Wrap (postfix e) rest)
    ∙ runs_tree e (Wrap ∷ rest) n room (runs_apply Wrap rest n (lt-ltb 0 (n + 1) (omega arith)) refl h)
runs_tree (Unary op e) rest n room h =
    ap (λ (ks : List PostfixItem). runs ks n) (snoc (Apply op) (postfix e) rest)
    ∙ runs_tree e (Apply op ∷ rest) n room (runs_apply (Apply op) rest n (and_true 0 (n + 1) (n + 1) 521 (omega arith) (omega (arith, room, need_some e))) refl h)
runs_tree (Binary op l r) rest n room h =
    let two : n + 1 + 1 - 1 ≡ n + 1 = omega arith in
    let last : runs (Combine op ∷ rest) (n + 1 + 1) ≡ true =
    rw (and_true 1 (n + 1 + 1) (n + 1 + 1) 521 (omega arith) (omega (arith, room, need_some r)), two, h) refl in
    ap (λ (ks : List PostfixItem). runs ks n)
    (snoc (Combine op) (postfix r ++ postfix l) rest
    ∙ ap (λ (ks : List PostfixItem). ks ++ (Combine op ∷ rest)) (reverse-append (postfix r) (postfix l))
    ∙ append_assoc (reverse (postfix l)) (reverse (postfix r)) (Combine op ∷ rest))
    ∙ runs_tree l (reverse (postfix r) ++ (Combine op ∷ rest)) n (omega (arith, room))
    (runs_tree r (Combine op ∷ rest) (n + 1) (omega (arith, room)) last)

-- a grouped tree that is not too deep runs
pub runs_postfix : (e : Tree) (is : List PostfixItem) → IsGrouped e → depth e ≤ 64 → is ≡ postfix e ++ [] → runs (reverse is) 0 ≡ true
runs_postfix e is g d h =
    ap (λ (ks : List PostfixItem). runs (reverse ks) 0) (h ∙ append-nil (postfix e))
    ∙ ap (λ (ks : List PostfixItem). runs ks 0) (sym (append-nil (reverse (postfix e))))
    ∙ runs_tree e [] 0 (omega (arith, need_most e g, level_most e, d)) refl
