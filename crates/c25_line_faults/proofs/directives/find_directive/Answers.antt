use Rattle.std.proofs.Common.{rules, tests, ◌≡◌, ℕ, Bool, true, false, cond, List, [], ◌∷◌, Option, Some, None, Bor, refl, ap, subst, ◌∙◌}
use Rattle.std.proofs.lemmas.Iterator.{YieldsList-from_slice}
use Rattle.std.proofs.lemmas.Iterator.Search.{find_from_yields_List}
use Rattle.std.specs.Prelude.{map}
use Rattle.std.specs.List.{find}
use Rattle.std.specs.Map.{lookup}
use Rattle.std.specs.Option.{option_map}
use Rattle.std.specs.Slice.Iter.{iter_rest}
use Rattle.std.specs.Str.{str_eq_ignore_ascii_case}
use Rattle.c25_meaning_expansion.specs.declared.expansion.Directive.{Directive}
use Rattle.c25_meaning_expansion.specs.Acts.{directives, directive_of}
use Rattle.c25_line_faults.proofs.directives.find_directive.Goals as goal

-- a directive with its name
abbrev Row : Type 0
Row = Bor (List ℕ) × Directive

one_more : (b : Bool) (row : Row) (found : Option Row) (rest : Option Directive) → option_map (λ r. r.1) found ≡ rest → option_map (λ r. r.1) (cond b (Some row) found) ≡ cond b (Some row.1) rest
one_more true row found rest e = refl
one_more false row found rest e = e

-- the first row of a name has its directive
among : (word : List ℕ) (rows : List Row) → option_map (λ r. r.1) (find (λ r. str_eq_ignore_ascii_case word r.0.now) rows) ≡ lookup (str_eq_ignore_ascii_case word) (map (λ r. (r.0.now, r.1)) rows)
among word [] = refl
among word (row ∷ rows) = one_more (str_eq_ignore_ascii_case word row.0.now) row _ _ (among word rows)

-- the row that is found has the directive too
told : (word : List ℕ) (rows : List Row) (found : Option (Bor Row)) → option_map (λ r. r.now) found ≡ find (λ r. str_eq_ignore_ascii_case word r.0.now) rows → option_map (λ r. r.now.1) found ≡ lookup (str_eq_ignore_ascii_case word) (map (λ r. (r.0.now, r.1)) rows)
told word rows None e = ap (option_map (λ r. r.1)) e ∙ among word rows
told word rows (Some row) e = ap (option_map (λ r. r.1)) e ∙ among word rows

pub returns-in-Some : goal.returns-in-Some
unfolding directive_of
returns-in-Some c =
    let word = c.args.word.now in
    let t : option_map (λ r. r.now.1) c.find.result ≡ lookup (str_eq_ignore_ascii_case word) directives = told word (iter_rest c.iter.result) c.find.result (find_from_yields_List (λ r. str_eq_ignore_ascii_case word r.0.now) _ _ c.find.result c.find.ensures.ran (YieldsList-from_slice _ refl) (λ x b q k. search (rules, tests))) ∙ ap (λ (rows : List Row). lookup (str_eq_ignore_ascii_case word) (map (λ r. (r.0.now, r.1)) rows)) c.iter.ensures.rest in
    subst (λ (o : Option (Bor Row)). option_map (λ r. r.now.1) o ≡ lookup (str_eq_ignore_ascii_case word) directives) c.in-Some.is t

pub returns-in-None : goal.returns-in-None
unfolding directive_of
returns-in-None c =
    let word = c.args.word.now in
    let t : option_map (λ r. r.now.1) c.find.result ≡ lookup (str_eq_ignore_ascii_case word) directives = told word (iter_rest c.iter.result) c.find.result (find_from_yields_List (λ r. str_eq_ignore_ascii_case word r.0.now) _ _ c.find.result c.find.ensures.ran (YieldsList-from_slice _ refl) (λ x b q k. search (rules, tests))) ∙ ap (λ (rows : List Row). lookup (str_eq_ignore_ascii_case word) (map (λ r. (r.0.now, r.1)) rows)) c.iter.ensures.rest in
    subst (λ (o : Option (Bor Row)). option_map (λ r. r.now.1) o ≡ lookup (str_eq_ignore_ascii_case word) directives) c.in-None.is t
