-- A reader, item by item.
use Rattle.std.proofs.Common.{◌≡◌, ℕ, ◌+◌, ◌<◌, ◌≤◌, List, ◌∷◌, get_or, drop, length, Option, Some, None, Result, Ok, Err, refl, ap, sym, subst, ◌∙◌}
use Rattle.std.specs.Option.{ok_or, option_and_then}
use Rattle.std.proofs.lemmas.Bool.{le-leb}
use Rattle.std.proofs.lemmas.List.{at_drop_more, drop_all}
use Rattle.c25_meaning_language.specs.declared.expression.BinaryOperator.{BinaryOperator}
use Rattle.c25_meaning_language.specs.declared.expression.ExpressionFault.{ExpressionFault}
use Rattle.c25_meaning_language.specs.declared.expression.ExpressionFault.TheVariants.{BadExpression}
use Rattle.c25_meaning_common.specs.Results.{Fails}
use Rattle.c25_meaning_common.specs.declared.failure.Failure.{Failure}
use Rattle.c25_meaning_common.specs.declared.failure.Failure.TheVariants.{NoMemory, Fault}
use Rattle.c25_meaning_language.specs.Tree.{level_of}
use Rattle.c25_meaning_language.specs.Reading.{PostfixItem, Combine}
use Rattle.c25_old_expressions.specs.declared.order.Order.{Order}
use Rattle.c25_old_expressions.specs.declared.reader.Frame.{Frame}
use Rattle.c25_old_expressions.specs.declared.reader.Frame.TheVariants.{After}
use Rattle.c25_old_expressions.specs.declared.symbol.Symbol.{Symbol}
use Rattle.c25_old_expressions.specs.Marks.{mark_of, marks_of}
use Rattle.c25_old_expressions.specs.Reader.{State, reduced, step, run, finished}

-- an operator of the level takes the last operand
pub reduced_more : (n : ℕ) (op : BinaryOperator) (fs gs : List Frame) (is js : List PostfixItem) → level_of op ≤ n → fs ≡ After op ∷ gs → js ≡ Combine op ∷ is
    → reduced n gs js ≡ reduced n fs is
reduced_more n op fs gs is js h frames items = rw (frames, items, le-leb (level_of op) n h) refl

-- what is answered is there
pub some_of : {A : Type 0} (o : Option A) (x : A) → ok_or o BadExpression ≡ Ok x → o ≡ Some x
some_of None x h = absurd (cc)
some_of (Some y) x h = cc

-- one token more
pub run_more : (order : Order) (ss : List Symbol) (i : ℕ) (d : Symbol) (s : State) (o : Option State) → i < length ss → step order s (mark_of (get_or ss i d)) ≡ o
    → run order (marks_of (drop i ss)) s ≡ option_and_then (run order (marks_of (drop (i + 1) ss))) o
run_more order ss i d s o l e =
    at_drop_more (λ us. run order (marks_of us) s) ss i d l
    ∙ ap (option_and_then (run order (marks_of (drop (i + 1) ss)))) e

-- after the last token
pub run_end : (order : Order) (ss : List Symbol) (i : ℕ) (s : State) → length ss ≤ i → run order (marks_of (drop i ss)) s ≡ finished s
run_end order ss i s l = ap (λ us. run order (marks_of us) s) (drop_all i ss l)

pub err_same : {A : Type 0} (x y : ExpressionFault) → (let r : Result A ExpressionFault = Err x in r) ≡ Err y → x ≡ y
err_same x y h = cc

refused_by : {A B : Type 0} (g : A → Option B) (o : Option A) (e : Failure ExpressionFault) → Fails (ok_or o BadExpression) e → Fails (ok_or (option_and_then g o) BadExpression) e
refused_by g o (NoMemory n) h = tt
refused_by g None (Fault f) h = ap (λ (x : ExpressionFault). Err x) (err_same BadExpression f h)
refused_by g (Some x) (Fault f) h = absurd (cc)

-- where a token may not stand nothing is read
pub refused : (order : Order) (ss : List Symbol) (i : ℕ) (d : Symbol) (s : State) (w : Option (List PostfixItem)) (e : Failure ExpressionFault) → i < length ss → run order (marks_of (drop i ss)) s ≡ w
    → Fails (ok_or (step order s (mark_of (get_or ss i d))) BadExpression) e → Fails (ok_or w BadExpression) e
refused order ss i d s w e l told h =
    subst (λ (v : Option (List PostfixItem)). Fails (ok_or v BadExpression) e) (sym (run_more order ss i d s _ l refl) ∙ told) (refused_by (run order (marks_of (drop (i + 1) ss))) _ e h)
