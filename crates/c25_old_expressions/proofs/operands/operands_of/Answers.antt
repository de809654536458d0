use Rattle.std.proofs.Common.{◌≡◌, List, [], ◌∷◌, map, Result, Ok, IfOk, Vec, vec_items, refl, ◌∙◌, ap, rules, tests}
use Rattle.std.specs.declared.alloc.Global.{Global}
use Rattle.std.specs.List.{slice_split}
use Rattle.std.proofs.lemmas.Iterator.Consumers.{map_from_collect}
use Rattle.std.proofs.lemmas.Iterator.Splits.{YieldsList-from_slice_split}
use Rattle.c25_old_expressions.specs.Marks.{is_comma, operands_of, sym_of}
use Rattle.c25_old_expressions.specs.declared.symbol.Symbol.{Symbol}
use Rattle.c25_old_expressions.proofs.Commas.{syms_of, split-syms}
use Rattle.c25_old_expressions.proofs.operands.operands_of.Goals as goal
use denote.Ref.{Bor}

now_syms : (xs : List (Bor (List Symbol))) → map (λ x. syms_of x.now) xs ≡ map syms_of (map (λ (x : Bor (List Symbol)). x.now) xs)
now_syms [] = refl
now_syms (x ∷ xs) = ap (λ ys. syms_of x.now ∷ ys) (now_syms xs)

viewed : {E : Type 0} (ss : List Symbol) (r : Result (Vec (Bor (List Symbol)) Global) E) (v : Vec (Bor (List Symbol)) Global) → r ≡ Ok v
    → IfOk r (λ w. map (λ (x : Bor (List Symbol)). x.now) (vec_items w) ≡ slice_split (λ s. is_comma (sym_of s)) ss) → map (λ x. syms_of x.now) v.items ≡ operands_of (syms_of ss)
viewed ss r v was h =
    let split : map (λ (x : Bor (List Symbol)). x.now) (vec_items v) ≡ slice_split (λ s. is_comma (sym_of s)) ss = rw was at h in
    now_syms v.items ∙ ap (map syms_of) split ∙ split-syms ss

pub returns : goal.returns
returns c = viewed c.args.symbols.now c.collect.result _ c.in_ok-collect.was
    (map_from_collect _ c.collect.ensures.ran (YieldsList-from_slice_split _ _ c.args.symbols.now c.split.ensures.rest c.split.ensures.done c.split.ensures.closure (λ x r q k. search (rules, tests))))
