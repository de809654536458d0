-- The steps of a scan of old operands.
use Rattle.std.proofs.Common.{◌≡◌, ℕ, Bool, zero, suc, ◌<◌, List, [], ◌∷◌, length, drop, Option, Some, None, Ok, Err, refl, ap, sym, subst, ◌∙◌, arith}
use Rattle.std.specs.Option.{ok_or}
use Rattle.c25_meaning_common.specs.Results.{Fails}
use Rattle.c25_meaning_common.specs.declared.failure.Failure.{Failure}
use Rattle.c25_meaning_common.specs.declared.failure.Failure.TheVariants.{NoMemory, Fault}
use Rattle.c25_meaning_language.specs.declared.expression.ExpressionFault.{ExpressionFault}
use Rattle.c25_meaning_language.specs.declared.expression.ExpressionFault.TheVariants.{BadExpression}
use Rattle.c25_old_expressions.specs.declared.order.Order.{Order}
use Rattle.c25_old_expressions.specs.Marks.{Sym}
use Rattle.c25_old_expressions.specs.OldSymbols.{Passed, SoFar, after_lexeme, old_lexeme, old_scan, passed}
use Rattle.c25_old_expressions.proofs.Steps.{err_same, some_of}

scan_skip : (order : Order) (labelled : Bool) (so : SoFar) (k : ℕ) (t : List ℕ) → old_scan order labelled so k t ≡ old_scan order labelled so 0 (drop k t)
scan_skip order labelled so zero t = refl
scan_skip order labelled so (suc k) [] = refl
scan_skip order labelled so (suc k) (b ∷ t) = scan_skip order labelled so k t

-- what follows a lexeme at the front of a text
abbrev follows : Order → Bool → List ℕ → Option Passed → Option (List Sym)
follows order labelled t o = after_lexeme (λ so n. old_scan order labelled so n (drop 1 t)) o

scan_step : (order : Order) (labelled : Bool) (so : SoFar) (t : List ℕ) → 0 < length t → old_scan order labelled so 0 t ≡ follows order labelled t (passed order so (old_lexeme labelled so.begins t))
scan_step order labelled so [] l = absurd (omega arith)
scan_step order labelled so (b ∷ t) l = refl

-- a lexeme is passed
pub scan_on : (order : Order) (labelled : Bool) (so more : SoFar) (t : List ℕ) (n : ℕ) (w : Option (List Sym)) → 0 < length t → ok_or (passed order so (old_lexeme labelled so.begins t)) BadExpression ≡ Ok (record { so = more; covered = Some n })
    → old_scan order labelled so 0 t ≡ w → old_scan order labelled more 0 (drop n (drop 1 t)) ≡ w
scan_on order labelled so more t n w l h told =
    sym (scan_skip order labelled more n (drop 1 t)) ∙ sym (ap (follows order labelled t) (some_of _ _ h)) ∙ sym (scan_step order labelled so t l) ∙ told

-- the operands end at a lexeme
pub scan_ends : (order : Order) (labelled : Bool) (so more : SoFar) (t : List ℕ) (w : Option (List Sym)) → 0 < length t → ok_or (passed order so (old_lexeme labelled so.begins t)) BadExpression ≡ Ok (record { so = more; covered = None })
    → old_scan order labelled so 0 t ≡ w → ok_or w BadExpression ≡ Ok more.symbols
scan_ends order labelled so more t w l h told =
    ap (λ (o : Option (List Sym)). ok_or o BadExpression) (sym told ∙ scan_step order labelled so t l ∙ ap (follows order labelled t) (some_of _ _ h))

-- the operands end with the text
pub scan_all : (order : Order) (labelled : Bool) (so : SoFar) (t : List ℕ) (w : Option (List Sym)) → length t ≡ 0 → old_scan order labelled so 0 t ≡ w → ok_or w BadExpression ≡ Ok so.symbols
scan_all order labelled so [] w l told = ap (λ (o : Option (List Sym)). ok_or o BadExpression) (sym told)
scan_all order labelled so (b ∷ t) w l told = absurd (omega (arith, l))

fails_by : (order : Order) (labelled : Bool) (t : List ℕ) (o : Option Passed) (e : Failure ExpressionFault) → Fails (ok_or o BadExpression) e → Fails (ok_or (follows order labelled t o) BadExpression) e
fails_by order labelled t o (NoMemory n) h = tt
fails_by order labelled t None (Fault f) h = ap (λ (x : ExpressionFault). Err x) (err_same BadExpression f h)
fails_by order labelled t (Some p) (Fault f) h = absurd (cc)

-- where a lexeme is not read nothing is
pub scan_fails : (order : Order) (labelled : Bool) (so : SoFar) (t : List ℕ) (w : Option (List Sym)) (e : Failure ExpressionFault) → 0 < length t → Fails (ok_or (passed order so (old_lexeme labelled so.begins t)) BadExpression) e
    → old_scan order labelled so 0 t ≡ w → Fails (ok_or w BadExpression) e
scan_fails order labelled so t w e l h told =
    subst (λ (v : Option (List Sym)). Fails (ok_or v BadExpression) e) (sym (scan_step order labelled so t l) ∙ told) (fails_by order labelled t _ e h)
