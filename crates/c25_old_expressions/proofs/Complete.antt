-- Each tree as written is read, where operators act as they are written.
use Rattle.std.proofs.Common.{◌≡◌, true, cond, List, [], ◌∷◌, ◌++◌, Option, Some, None, is_some, refl, sym, ap, ◌∙◌, arith, append_assoc}
use Rattle.std.specs.Option.{option_and_then, option_map}
use Rattle.std.proofs.lemmas.List.{append-nil}
use Rattle.std.proofs.lemmas.Bool.{false≢true, le-leb}
use Rattle.c25_meaning_language.specs.declared.line.Sign.TheVariants as sign
use Rattle.c25_meaning_language.specs.declared.expression.BinaryOperator.{BinaryOperator}
use Rattle.c25_meaning_language.specs.declared.expression.BinaryOperator.TheVariants as binary
use Rattle.c25_meaning_language.specs.declared.expression.UnaryOperator.{UnaryOperator}
use Rattle.c25_meaning_language.specs.declared.expression.UnaryOperator.TheVariants as unary
use Rattle.c25_meaning_language.specs.Tree.{Tree, Single, Group, Unary, Binary, Mark, Signed, level_of, level, spelling, binary_sign, unary_sign}
use Rattle.c25_meaning_language.specs.Reading as reading
use Rattle.c25_meaning_language.specs.Reading.{PostfixItem, Push, Wrap, Apply, Combine, Frame, Open, Pending, After, ParserState, Found, settle, reduced, loosest, operand_begun, waiting, closed, finished, whole, unary_of, binary_of, is_open}
use Rattle.c25_expr.proofs.Sound.{level_loosest, level_positive}
use Rattle.c25_expr.proofs.Complete.{postfix, spread}
use Rattle.c25_old_expressions.specs.declared.order.Order.TheVariants.{AsWritten}
use Rattle.c25_old_expressions.specs.OldReading.{followed, old_tree, run, step}
use Rattle.c25_old_expressions.specs.Laws.{IsAsWritten, IsLeftToRight}
use Rattle.c25_old_expressions.proofs.LeftToRight.{IsFree}

unary_sign-of : (op : UnaryOperator) → unary_of (unary_sign op) ≡ Some op
unary_sign-of unary.Plus = refl
unary_sign-of _ = refl

binary_sign-of : (op : BinaryOperator) → binary_of (binary_sign op) ≡ Some op
binary_sign-of binary.Multiply = refl
binary_sign-of _ = refl

abbrev before_operand : List Frame → List PostfixItem → ParserState
before_operand fs is = record { frames = fs; current = None; items = is }

abbrev after_operand : List Frame → Tree → List PostfixItem → ParserState
after_operand fs e is = record { frames = fs; current = Some e; items = is }

-- the state once all operators that wait have taken the operand
abbrev taking_by : List Frame → Option Tree → List PostfixItem → ParserState
taking_by fs None is = before_operand fs is
taking_by fs (Some e) is = reduced loosest fs e is

abbrev taking : ParserState → ParserState
taking s = taking_by s.frames s.current s.items

-- a tree that is no operator between two settles
spread_zero : (e : Tree) (fs : List Frame) (is : List PostfixItem) → level e ≡ 0 → spread fs e is ≡ settle fs e (postfix e ++ is)
spread_zero (Single l) fs is z = refl
spread_zero (Group e) fs is z = refl
spread_zero (Unary op e) fs is z = refl
spread_zero (Binary op l r) fs is z = absurd (omega (arith, z, level_positive op))

free_settle : (fs : List Frame) (e : Tree) (is : List PostfixItem) → IsFree fs → settle fs e is ≡ after_operand fs e is
free_settle [] e is r = refl
free_settle (Open ∷ fs) e is r = refl
free_settle (Pending op ∷ fs) e is r = absurd r
free_settle (After l op ∷ fs) e is r = absurd r

free_reduced : (fs : List Frame) (e : Tree) (is : List PostfixItem) → IsFree fs → reduced loosest fs e is ≡ after_operand fs e is
free_reduced [] e is r = refl
free_reduced (Open ∷ fs) e is r = refl
free_reduced (Pending op ∷ fs) e is r = absurd r
free_reduced (After l op ∷ fs) e is r = absurd r

taken_zero : (fs : List Frame) (e : Tree) (is : List PostfixItem) → IsFree fs → level e ≡ 0 → taking (spread fs e is) ≡ after_operand fs e (postfix e ++ is)
taken_zero fs e is r z = ap taking (spread_zero e fs is z ∙ free_settle fs e (postfix e ++ is) r) ∙ free_reduced fs e (postfix e ++ is) r

-- all operators of a tree take their operands
taken : (fs : List Frame) (e : Tree) (is : List PostfixItem) → IsFree fs → IsAsWritten e → taking (spread fs e is) ≡ after_operand fs e (postfix e ++ is)
taken fs (Single l) is r w = taken_zero fs (Single l) is r refl
taken fs (Group e) is r w = taken_zero fs (Group e) is r refl
taken fs (Unary op e) is r w = taken_zero fs (Unary op e) is r refl
taken fs (Binary op l e) is r w =
    let items : List PostfixItem = postfix e ++ (postfix l ++ is) in
    ap taking (spread_zero e (After l op ∷ fs) (postfix l ++ is) w.0)
    ∙ ap (λ b. cond b (reduced loosest fs (Binary op l e) (Combine op ∷ items)) (after_operand (After l op ∷ fs) e items)) (le-leb (level_of op) loosest (level_loosest op))
    ∙ free_reduced fs (Binary op l e) (Combine op ∷ items) r
    ∙ ap (λ (js : List PostfixItem). after_operand fs (Binary op l e) (Combine op ∷ js)) (sym (append_assoc (postfix e) (postfix l) is))

some_settled : (fs : List Frame) (e : Tree) (is : List PostfixItem) → is_some (settle fs e is).current ≡ true
some_settled [] e is = refl
some_settled (Open ∷ fs) e is = refl
some_settled (Pending op ∷ fs) e is = some_settled fs (Unary op e) (Apply op ∷ is)
some_settled (After l op ∷ fs) e is = refl

some_spread : (e : Tree) (fs : List Frame) (is : List PostfixItem) → is_some (spread fs e is).current ≡ true
some_spread (Single l) fs is = some_settled fs (Single l) (Push l ∷ is)
some_spread (Group e) fs is = some_settled fs (Group e) (Wrap ∷ (postfix e ++ is))
some_spread (Unary op e) fs is = some_settled fs (Unary op e) (Apply op ∷ (postfix e ++ is))
some_spread (Binary op l r) fs is = some_spread r (After l op ∷ fs) (postfix l ++ is)

op_step : (s : ParserState) (op : BinaryOperator) → is_some s.current ≡ true → step AsWritten s (Signed (binary_sign op)) ≡ Some (waiting op (taking s))
op_step s op h = by s.frames s.current s.items h
  where
    by : (fs : List Frame) (c : Option Tree) (is : List PostfixItem) → is_some c ≡ true → step AsWritten (record { frames = fs; current = c; items = is }) (Signed (binary_sign op)) ≡ Some (waiting op (taking_by fs c is))
    by fs None is h = absurd (false≢true h)
    by fs (Some e) is h = ap (λ (o : Option BinaryOperator). followed AsWritten fs e is o (reading.is_close (binary_sign op))) (binary_sign-of op)

close_step : (s : ParserState) → is_some s.current ≡ true → step AsWritten s (Signed sign.CloseParenthesis) ≡ closed (taking s)
close_step s h = by s.frames s.current s.items h
  where
    by : (fs : List Frame) (c : Option Tree) (is : List PostfixItem) → is_some c ≡ true → step AsWritten (record { frames = fs; current = c; items = is }) (Signed sign.CloseParenthesis) ≡ closed (taking_by fs c is)
    by fs None is h = absurd (false≢true h)
    by fs (Some e) is h = refl

end_step : (s : ParserState) → is_some s.current ≡ true → finished s ≡ whole (taking s)
end_step s h = by s.frames s.current s.items h
  where
    by : (fs : List Frame) (c : Option Tree) (is : List PostfixItem) → is_some c ≡ true → finished (record { frames = fs; current = c; items = is }) ≡ whole (taking_by fs c is)
    by fs None is h = absurd (false≢true h)
    by fs (Some e) is h = refl

-- a tree may come after these frames
abbrev Fits : List Frame → Tree → Type 0
Fits [] e = Unit {0}
Fits (Open ∷ fs) e = Unit {0}
Fits (Pending op ∷ fs) e = level e ≡ 0
Fits (After l op ∷ fs) e = level e ≡ 0

fits_free : (fs : List Frame) (op : BinaryOperator) (l r : Tree) → Fits fs (Binary op l r) → IsFree fs
fits_free [] op l r h = tt
fits_free (Open ∷ fs) op l r h = tt
fits_free (Pending o ∷ fs) op l r h = absurd (omega (arith, h, level_positive op))
fits_free (After x o ∷ fs) op l r h = absurd (omega (arith, h, level_positive op))

free_fits : (fs : List Frame) (e : Tree) → IsFree fs → Fits fs e
free_fits [] e r = tt
free_fits (Open ∷ fs) e r = tt
free_fits (Pending op ∷ fs) e r = absurd r
free_fits (After l op ∷ fs) e r = absurd r

-- the tokens of a tree are read as that tree
reads : (e : Tree) (fs : List Frame) (is : List PostfixItem) (rest : List Mark) → IsAsWritten e → Fits fs e → run AsWritten (spelling e ++ rest) (before_operand fs is) ≡ run AsWritten rest (spread fs e is)
reads (Single l) fs is rest w h = refl
reads (Unary op e) fs is rest w h =
    ap (λ (o : Option UnaryOperator). option_and_then (run AsWritten (spelling e ++ rest)) (operand_begun fs is o (is_open (unary_sign op)))) (unary_sign-of op)
    ∙ reads e (Pending op ∷ fs) is rest w.1 w.0
    ∙ ap (run AsWritten rest) (spread_zero e (Pending op ∷ fs) is w.0)
reads (Group e) fs is rest w h =
    ap (λ (ms : List Mark). run AsWritten ms (before_operand (Open ∷ fs) is)) (append_assoc (spelling e) (Signed sign.CloseParenthesis ∷ []) rest)
    ∙ reads e (Open ∷ fs) is (Signed sign.CloseParenthesis ∷ rest) w tt
    ∙ ap (option_and_then (run AsWritten rest)) (close_step (spread (Open ∷ fs) e is) (some_spread e (Open ∷ fs) is) ∙ ap closed (taken (Open ∷ fs) e is tt w))
reads (Binary op l r) fs is rest w h =
    let free : IsFree fs = fits_free fs op l r h in
    ap (λ (ms : List Mark). run AsWritten ms (before_operand fs is)) (append_assoc (spelling l) (Signed (binary_sign op) ∷ spelling r) rest)
    ∙ reads l fs is (Signed (binary_sign op) ∷ (spelling r ++ rest)) w.1 (free_fits fs l free)
    ∙ ap (option_and_then (run AsWritten (spelling r ++ rest))) (op_step (spread fs l is) op (some_spread l fs is) ∙ ap (λ (s : ParserState). Some (waiting op s)) (taken fs l is free w.1))
    ∙ reads r (After l op ∷ fs) (postfix l ++ is) rest w.2 w.0

-- a tree that has the tokens from left to right, and is as written, is read
pub is_read : (ms : List Mark) (e : Tree) → IsLeftToRight ms e → old_tree AsWritten ms ≡ Some e
is_read ms e h =
    ap (λ (xs : List Mark). option_map (λ (f : Found). f.tree) (run AsWritten xs reading.start)) (sym h.spelled ∙ sym (append-nil (spelling e)))
    ∙ ap (option_map (λ (f : Found). f.tree))
    (reads e [] [] [] h.as_written tt ∙ end_step (spread [] e []) (some_spread e [] []) ∙ ap whole (taken [] e [] tt h.as_written))
