use Rattle.std.proofs.Common.{rules, tests, ◌≡◌, ℕ, Bool, true, false, cond, List, [], ◌∷◌, Option, Some, None, Bor, refl, ap, subst, ◌∙◌}
use Rattle.std.proofs.lemmas.Iterator.{YieldsList-from_slice}
use Rattle.std.proofs.lemmas.Iterator.Search.{find_from_yields_List}
use Rattle.std.specs.Prelude.{map}
use Rattle.std.specs.List.{find}
use Rattle.std.specs.Option.{option_map}
use Rattle.std.specs.Slice.Iter.{iter_rest}
use Rattle.std.specs.Str.{str_eq_ignore_ascii_case}
use Rattle.c25_move_lines.specs.Directives.{renamings, renamed, renamed_among}
use Rattle.c25_move_lines.proofs.directives.renamed.Goals as goal

-- a directive with its new name
abbrev Row : Type 0
Row = Bor (List ℕ) × Bor (List ℕ)

one_more : (b : Bool) (row : Row) (found : Option Row) (rest : Option (List ℕ)) → option_map (λ r. r.1.now) found ≡ rest → option_map (λ r. r.1.now) (cond b (Some row) found) ≡ cond b (Some row.1.now) rest
one_more true row found rest e = refl
one_more false row found rest e = e

-- the first row of a name has its new name
among : (word : List ℕ) (rows : List Row) → option_map (λ r. r.1.now) (find (λ r. str_eq_ignore_ascii_case word r.0.now) rows) ≡ renamed_among word (map (λ r. (r.0.now, r.1.now)) rows)
among word [] = refl
among word (row ∷ rows) = one_more (str_eq_ignore_ascii_case word row.0.now) row _ _ (among word rows)

-- the row that is found has the new name too
told : (word : List ℕ) (rows : List Row) (found : Option (Bor Row)) → option_map (λ r. r.now) found ≡ find (λ r. str_eq_ignore_ascii_case word r.0.now) rows → option_map (λ r. r.now.1.now) found ≡ renamed_among word (map (λ r. (r.0.now, r.1.now)) rows)
told word rows None e = ap (option_map (λ r. r.1.now)) e ∙ among word rows
told word rows (Some row) e = ap (option_map (λ r. r.1.now)) e ∙ among word rows

pub returns-in-Some : goal.returns-in-Some
unfolding renamed
returns-in-Some c =
    let word = c.args.word.now in
    let t : option_map (λ r. r.now.1.now) c.find.result ≡ renamed_among word renamings = told word (iter_rest c.iter.result) c.find.result (find_from_yields_List (λ r. str_eq_ignore_ascii_case word r.0.now) _ _ c.find.result c.find.ensures.ran (YieldsList-from_slice _ refl) (λ x b q k. search (rules, tests))) ∙ ap (λ (rows : List Row). renamed_among word (map (λ r. (r.0.now, r.1.now)) rows)) c.iter.ensures.rest in
    subst (λ (o : Option (Bor Row)). option_map (λ r. r.now.1.now) o ≡ renamed_among word renamings) c.in-Some.is t

pub returns-in-None : goal.returns-in-None
unfolding renamed
returns-in-None c =
    let word = c.args.word.now in
    let t : option_map (λ r. r.now.1.now) c.find.result ≡ renamed_among word renamings = told word (iter_rest c.iter.result) c.find.result (find_from_yields_List (λ r. str_eq_ignore_ascii_case word r.0.now) _ _ c.find.result c.find.ensures.ran (YieldsList-from_slice _ refl) (λ x b q k. search (rules, tests))) ∙ ap (λ (rows : List Row). renamed_among word (map (λ r. (r.0.now, r.1.now)) rows)) c.iter.ensures.rest in
    subst (λ (o : Option (Bor Row)). option_map (λ r. r.now.1.now) o ≡ renamed_among word renamings) c.in-None.is t
