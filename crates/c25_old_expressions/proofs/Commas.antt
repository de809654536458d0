-- Symbols that are cut at commas are the operands.
use Rattle.std.proofs.Common.{◌≡◌, ℕ, ◌≤◌, min, Bool, true, false, cond, List, [], ◌∷◌, length, drop, map, refl, sym, subst, ◌∙◌, ap, inl, inr, arith}
use Rattle.std.proofs.lemmas.Bool.{cases_lt}
use Rattle.std.proofs.lemmas.List.{drop_all}
use denote.Ref.{Bor}
use Rattle.c25_old_expressions.specs.declared.order.Order.{Order}
use Rattle.c25_old_expressions.specs.SameValue.{AreOfOneValue}
use Rattle.std.specs.List.{slice_split, onto_first}
use Rattle.c25_old_expressions.specs.Marks.{Sym, is_comma, operands_of, sym_of}
use Rattle.c25_old_expressions.specs.declared.symbol.Symbol.{Symbol}

-- what symbols of the code stand for
abbrev pub syms_of : List Symbol → List Sym
syms_of ss = map sym_of ss

onto-syms : (s : Symbol) (sss : List (List Symbol)) → map syms_of (onto_first s sss) ≡ onto_first (sym_of s) (map syms_of sss)
onto-syms s [] = refl
onto-syms s (ss ∷ sss) = refl

cut_by : (b : Bool) (s : Symbol) (sss : List (List Symbol)) (oss : List (List Sym)) → map syms_of sss ≡ oss
    → map syms_of (cond b ([] ∷ sss) (onto_first s sss)) ≡ cond b ([] ∷ oss) (onto_first (sym_of s) oss)
cut_by true s sss oss e = ap (λ x. [] ∷ x) e
cut_by false s sss oss e = onto-syms s sss ∙ ap (onto_first (sym_of s)) e

pub split-syms : (ss : List Symbol) → map syms_of (slice_split (λ s. is_comma (sym_of s)) ss) ≡ operands_of (syms_of ss)
split-syms [] = refl
split-syms (s ∷ ss) = cut_by (is_comma (sym_of s)) s _ _ (split-syms ss)

-- what operands of the code stand for
abbrev pub views_of : List (Bor (List Symbol)) → List (List Sym)
views_of os = map (λ (x : Bor (List Symbol)). map sym_of x.now) os

right_empty : (order : Order) (os : List (List Sym)) → AreOfOneValue order os []
right_empty order [] = tt
right_empty order (o ∷ os) = tt

-- where no operand is left on one side there is no value
pub none_left : (order : Order) (xs ys : List (Bor (List Symbol))) (n : ℕ) → min (length xs) (length ys) ≤ n → AreOfOneValue order (views_of (drop n xs)) (views_of (drop n ys))
none_left order xs ys n h = elim (cases_lt n (length xs)) [
  | inl more ↦ subst (λ (l : List (Bor (List Symbol))). AreOfOneValue order (views_of (drop n xs)) (views_of l)) (sym (drop_all n ys (omega (arith, h, more)))) (right_empty order (views_of (drop n xs)))
  | inr all ↦ subst (λ (l : List (Bor (List Symbol))). AreOfOneValue order (views_of l) (views_of (drop n ys))) (sym (drop_all n xs all)) tt
]
