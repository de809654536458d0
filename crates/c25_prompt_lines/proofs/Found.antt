-- Symbols that are found among entries are found among what the entries stand for.
use Rattle.std.proofs.Common.{◌≡◌, ℕ, ◌+◌, Bool, true, false, cond, List, [], ◌∷◌, map, Option, Some, None, Bor, refl, ap, ◌∙◌}
use Rattle.std.specs.Prelude.{count_by, find, fold, option_map}
use Rattle.c25_symbols.specs.Symbols.{Listed}
use Rattle.c25_symbols.specs.View.{entry_view}
use Rattle.c25_symbols.specs.declared.entries.SymbolEntry.{SymbolEntry}

module _ (test : Listed → Bool) where
  one_more : (b : Bool) (y : SymbolEntry) (found : Option SymbolEntry) (rest : Option Listed) → option_map entry_view found ≡ rest → option_map entry_view (cond b (Some y) found) ≡ cond b (Some (entry_view y)) rest
  one_more true y found rest e = refl
  one_more false y found rest e = e

  among : (ys : List SymbolEntry) → option_map entry_view (find (λ y. test (entry_view y)) ys) ≡ find test (map entry_view ys)
  among [] = refl
  among (y ∷ ys) = one_more (test (entry_view y)) y _ _ (among ys)

  -- the first that passes
  pub viewed : (ys : List SymbolEntry) (found : Option (Bor SymbolEntry)) → option_map (λ y. y.now) found ≡ find (λ y. test (entry_view y)) ys → option_map (λ y. entry_view y.now) found ≡ find test (map entry_view ys)
  viewed ys None e = ap (option_map entry_view) e ∙ among ys
  viewed ys (Some y) e = ap (option_map entry_view) e ∙ among ys

  summed : (a : ℕ) (ys : List SymbolEntry) → fold (λ n y. n + cond (test (entry_view y)) 1 0) a ys ≡ fold (λ n y. n + cond (test y) 1 0) a (map entry_view ys)
  summed a [] = refl
  summed a (y ∷ ys) = summed (a + cond (test (entry_view y)) 1 0) ys

  -- how many pass
  pub counted : (ys : List SymbolEntry) → count_by (λ y. test (entry_view y)) ys ≡ count_by test (map entry_view ys)
  counted ys = summed 0 ys
