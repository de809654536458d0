-- What is read is spelled so, and grouped.
use Rattle.std.proofs.Common.{◌≡◌, ℕ, ◌<◌, ◌≤◌, Bool, true, false, nat_le, List, [], ◌∷◌, ◌++◌, Option, Some, None, refl, sym, ap, subst, ◌∙◌, arith, lit<, append_assoc}
use Rattle.std.specs.Option.{option_and_then}
use Rattle.std.proofs.lemmas.List.{append-nil}
use Rattle.std.proofs.lemmas.Bool.{false≢true, cond_both, leb-true, leb-false}
use Rattle.c25_meaning_language.specs.declared.line.Sign.{Sign}
use Rattle.c25_meaning_language.specs.declared.line.Sign.TheVariants as sign
use Rattle.c25_meaning_language.specs.declared.expression.BinaryOperator.{BinaryOperator}
use Rattle.c25_meaning_language.specs.declared.expression.BinaryOperator.TheVariants as binary
use Rattle.c25_meaning_language.specs.declared.expression.UnaryOperator.{UnaryOperator}
use Rattle.c25_meaning_language.specs.declared.expression.UnaryOperator.TheVariants as unary
use Rattle.c25_meaning_language.specs.Tree.{Tree, Single, Group, Unary, Binary, Mark, Operand, Signed, Stray, level_of, level, spelling, binary_sign, unary_sign, IsGrouped}
use Rattle.c25_meaning_language.specs.Reading.{PostfixItem, Push, Wrap, Apply, Combine, Frame, Open, Pending, After, ParserState, Found, settle, reduced, loosest, step, step_by, operand_begun, waiting_by, closed_by, followed, finished_by, whole_by, run, unary_of, binary_of, is_open, is_close}

-- the tokens of what is open
abbrev pub before : List Frame → List Mark
before [] = []
before (Open ∷ fs) = before fs ++ Signed sign.OpenParenthesis ∷ []
before (Pending op ∷ fs) = before fs ++ Signed (unary_sign op) ∷ []
before (After l op ∷ fs) = before fs ++ (spelling l ++ Signed (binary_sign op) ∷ [])

-- the tokens of the operand after what is open
abbrev pub operand_marks : Option Tree → List Mark
operand_marks None = []
operand_marks (Some e) = spelling e

-- the tokens so far
abbrev pub so_far : ParserState → List Mark
so_far s = before s.frames ++ operand_marks s.current

-- no operator of this level or tighter is open right before
abbrev pub IsReady : List Frame → ℕ → Type 0
IsReady [] n = Unit {0}
IsReady (Open ∷ fs) n = Unit {0}
IsReady (Pending op ∷ fs) n = ⊥
IsReady (After l op ∷ fs) n = n < level_of op

-- each tree in the frames is grouped
abbrev pub AreGrouped : List Frame → Type 0
AreGrouped [] = Unit {0}
AreGrouped (Open ∷ fs) = AreGrouped fs
AreGrouped (Pending op ∷ fs) = AreGrouped fs
AreGrouped (After l op ∷ fs) = IsGrouped l × (level l ≤ level_of op) × IsReady fs (level_of op) × AreGrouped fs

-- the operand after the frames is grouped, and the operators before it may take it
abbrev pub OperandGrouped : List Frame → Option Tree → Type 0
OperandGrouped fs None = Unit {0}
OperandGrouped fs (Some e) = IsGrouped e × (level e ≡ 0) × IsReady fs 0

-- each tree of a state is grouped
abbrev pub IsSound : ParserState → Type 0
IsSound s = AreGrouped s.frames × OperandGrouped s.frames s.current

pub level_positive : (op : BinaryOperator) → 0 < level_of op
level_positive binary.Multiply = lit< tt
level_positive _ = lit< tt

so_far-settle : (fs : List Frame) (e : Tree) (is : List PostfixItem) → so_far (settle fs e is) ≡ before fs ++ spelling e
so_far-settle [] e is = refl
so_far-settle (Open ∷ fs) e is = refl
so_far-settle (Pending op ∷ fs) e is = so_far-settle fs (Unary op e) (Apply op ∷ is) ∙ sym (append_assoc (before fs) (Signed (unary_sign op) ∷ []) (spelling e))
so_far-settle (After l op ∷ fs) e is = refl

IsSound-settle : (fs : List Frame) (e : Tree) (is : List PostfixItem) → AreGrouped fs → IsGrouped e → level e ≡ 0 → IsSound (settle fs e is)
IsSound-settle [] e is g h z = (tt, (h, z, tt))
IsSound-settle (Open ∷ fs) e is g h z = (g, (h, z, tt))
IsSound-settle (Pending op ∷ fs) e is g h z = IsSound-settle fs (Unary op e) (Apply op ∷ is) g (z, h) refl
IsSound-settle (After l op ∷ fs) e is g h z = (g, (h, z, level_positive op))

so_far-reduced : (n : ℕ) (fs : List Frame) (e : Tree) (is : List PostfixItem) → so_far (reduced n fs e is) ≡ before fs ++ spelling e
so_far-reduced n [] e is = refl
so_far-reduced n (Open ∷ fs) e is = refl
so_far-reduced n (Pending op ∷ fs) e is = refl
so_far-reduced n (After l op ∷ fs) e is = cond_both (nat_le (level_of op) n) (reduced n fs (Binary op l e) (Combine op ∷ is)) (record { frames = After l op ∷ fs; current = Some e; items = is })
    (λ (s : ParserState). so_far s ≡ before (After l op ∷ fs) ++ spelling e)
    (λ _. so_far-reduced n fs (Binary op l e) (Combine op ∷ is)
    ∙ ap (λ m. before fs ++ m) (sym (append_assoc (spelling l) (Signed (binary_sign op) ∷ []) (spelling e)))
    ∙ sym (append_assoc (before fs) (spelling l ++ Signed (binary_sign op) ∷ []) (spelling e)))
    (λ _. refl)

-- what is left where the operators of a level have taken the operand
abbrev ReducedBy : ℕ → List Frame → Option Tree → Type 0
ReducedBy n fs None = ⊥
ReducedBy n fs (Some e) = AreGrouped fs × IsGrouped e × (level e ≤ n) × IsReady fs n

abbrev IsReduced : ℕ → ParserState → Type 0
IsReduced n s = ReducedBy n s.frames s.current

IsReduced-reduced : (n : ℕ) (fs : List Frame) (e : Tree) (is : List PostfixItem) → AreGrouped fs → IsGrouped e → level e ≤ n → IsReady fs (level e) → IsReduced n (reduced n fs e is)
IsReduced-reduced n [] e is g h l r = (tt, h, l, tt)
IsReduced-reduced n (Open ∷ fs) e is g h l r = (g, h, l, tt)
IsReduced-reduced n (Pending op ∷ fs) e is g h l r = absurd r
IsReduced-reduced n (After x op ∷ fs) e is g h l r = cond_both (nat_le (level_of op) n) (reduced n fs (Binary op x e) (Combine op ∷ is)) (record { frames = After x op ∷ fs; current = Some e; items = is })
    (IsReduced n)
    (λ yes. IsReduced-reduced n fs (Binary op x e) (Combine op ∷ is) g.3 (g.1, r, g.0, h) (leb-true _ _ yes) g.2)
    (λ no. (g, h, l, leb-false _ _ no))

-- what a step gives
pub record Stepped (s t : ParserState) (m : Mark) : Type 0 where
  pub spelled : so_far t ≡ so_far s ++ m ∷ []
  pub sound : IsSound t

-- after a step, if there is one
abbrev Steps : ParserState → Mark → Option ParserState → Type 0
Steps s m None = Unit {0}
Steps s m (Some t) = Stepped s t m

some_same : {A : Type 0} (x y : A) → Some x ≡ Some y → x ≡ y
some_same x y h = cc

-- what the signs are
pub unary_of-sign : (s : Sign) (op : UnaryOperator) → unary_of s ≡ Some op → s ≡ unary_sign op
unary_of-sign sign.Plus op h = ap unary_sign (some_same unary.Plus op h)
unary_of-sign sign.Minus op h = ap unary_sign (some_same unary.Minus op h)
unary_of-sign sign.Tilde op h = ap unary_sign (some_same unary.Complement op h)
unary_of-sign _ op h = cc

pub binary_of-sign : (s : Sign) (op : BinaryOperator) → binary_of s ≡ Some op → s ≡ binary_sign op
binary_of-sign sign.Star op h = ap binary_sign (some_same binary.Multiply op h)
binary_of-sign sign.Slash op h = ap binary_sign (some_same binary.Divide op h)
binary_of-sign sign.Percent op h = ap binary_sign (some_same binary.Remainder op h)
binary_of-sign sign.Plus op h = ap binary_sign (some_same binary.Add op h)
binary_of-sign sign.Minus op h = ap binary_sign (some_same binary.Subtract op h)
binary_of-sign sign.ShiftLeft op h = ap binary_sign (some_same binary.ShiftLeft op h)
binary_of-sign sign.ShiftRight op h = ap binary_sign (some_same binary.ShiftRight op h)
binary_of-sign sign.Less op h = ap binary_sign (some_same binary.Less op h)
binary_of-sign sign.LessOrEqual op h = ap binary_sign (some_same binary.LessOrEqual op h)
binary_of-sign sign.Greater op h = ap binary_sign (some_same binary.Greater op h)
binary_of-sign sign.GreaterOrEqual op h = ap binary_sign (some_same binary.GreaterOrEqual op h)
binary_of-sign sign.Equal op h = ap binary_sign (some_same binary.Equal op h)
binary_of-sign sign.NotEqual op h = ap binary_sign (some_same binary.NotEqual op h)
binary_of-sign sign.Ampersand op h = ap binary_sign (some_same binary.And op h)
binary_of-sign sign.Caret op h = ap binary_sign (some_same binary.ExclusiveOr op h)
binary_of-sign sign.Bar op h = ap binary_sign (some_same binary.Or op h)
binary_of-sign _ op h = cc

is_open-sign : (s : Sign) → is_open s ≡ true → s ≡ sign.OpenParenthesis
is_open-sign sign.OpenParenthesis h = refl
is_open-sign _ h = absurd (false≢true h)

is_close-sign : (s : Sign) → is_close s ≡ true → s ≡ sign.CloseParenthesis
is_close-sign sign.CloseParenthesis h = refl
is_close-sign _ h = absurd (false≢true h)

spelled_none : (ms : List Mark) (t s : Sign) → t ≡ s → (ms ++ Signed t ∷ []) ++ [] ≡ (ms ++ []) ++ Signed s ∷ []
spelled_none ms t s h = append-nil _ ∙ ap (λ x. ms ++ Signed x ∷ []) h ∙ ap (λ x. x ++ Signed s ∷ []) (sym (append-nil ms))

regroup : (xs : List Mark) (a : Mark) (ys : List Mark) (b : Mark) → xs ++ (a ∷ (ys ++ b ∷ [])) ≡ ((xs ++ a ∷ []) ++ ys) ++ b ∷ []
regroup xs a ys b = simp append_assoc

open_steps : (fs : List Frame) (is : List PostfixItem) (s : Sign) (o : Option UnaryOperator) (b : Bool) → unary_of s ≡ o → is_open s ≡ b → AreGrouped fs → Steps (record { frames = fs; current = None; items = is }) (Signed s) (operand_begun fs is o b)
open_steps fs is s (Some op) b h q g = record { spelled = spelled_none (before fs) (unary_sign op) s (sym (unary_of-sign s op h)); sound = (g, tt) }
open_steps fs is s None true h q g = record { spelled = spelled_none (before fs) sign.OpenParenthesis s (sym (is_open-sign s q)); sound = (g, tt) }
open_steps fs is s None false h q g = tt

-- an operator waits after what is left
wait_steps : (s : ParserState) (gs : List Frame) (c : Option Tree) (js : List PostfixItem) (o : Sign) (op : BinaryOperator) → o ≡ binary_sign op → ReducedBy (level_of op) gs c → before gs ++ operand_marks c ≡ so_far s → Stepped s (waiting_by op gs c js) (Signed o)
wait_steps s gs None js o op q r e = absurd r
wait_steps s gs (Some x) js o op q r e = record {
  spelled = append-nil _ ∙ sym (append_assoc (before gs) (spelling x) (Signed (binary_sign op) ∷ [])) ∙ ap (λ m. m ++ Signed (binary_sign op) ∷ []) e ∙ ap (λ t. so_far s ++ Signed t ∷ []) (sym q);
  sound = ((r.1, r.2, r.3, r.0), tt);
}

-- a group ends after what is left
close_steps : (s : ParserState) (n : ℕ) (gs : List Frame) (c : Option Tree) (js : List PostfixItem) (o : Sign) → o ≡ sign.CloseParenthesis → ReducedBy n gs c → before gs ++ operand_marks c ≡ so_far s → Steps s (Signed o) (closed_by gs c js)
close_steps s n [] None js o q r e = tt
close_steps s n [] (Some x) js o q r e = tt
close_steps s n (Pending op ∷ gs) None js o q r e = tt
close_steps s n (Pending op ∷ gs) (Some x) js o q r e = tt
close_steps s n (After l op ∷ gs) None js o q r e = tt
close_steps s n (After l op ∷ gs) (Some x) js o q r e = tt
close_steps s n (Open ∷ gs) None js o q r e = tt
close_steps s n (Open ∷ gs) (Some x) js o q r e = record {
  spelled = so_far-settle gs (Group x) (Wrap ∷ js)
      ∙ regroup (before gs) (Signed sign.OpenParenthesis) (spelling x) (Signed sign.CloseParenthesis)
      ∙ ap (λ m. m ++ Signed sign.CloseParenthesis ∷ []) e ∙ ap (λ t. so_far s ++ Signed t ∷ []) (sym q);
  sound = IsSound-settle gs (Group x) (Wrap ∷ js) r.0 r.1 refl;
}

pub level_loosest : (op : BinaryOperator) → level_of op ≤ 8
level_loosest binary.Multiply = omega arith
level_loosest _ = omega arith

follow_steps : (fs : List Frame) (e : Tree) (is : List PostfixItem) (s : Sign) (o : Option BinaryOperator) (b : Bool) → binary_of s ≡ o → is_close s ≡ b → AreGrouped fs → OperandGrouped fs (Some e)
    → Steps (record { frames = fs; current = Some e; items = is }) (Signed s) (followed fs e is o b)
follow_steps fs e is s (Some op) b h q g i =
    let t : ParserState = reduced (level_of op) fs e is in
    wait_steps (record { frames = fs; current = Some e; items = is }) t.frames t.current t.items s op (binary_of-sign s op h)
    (IsReduced-reduced (level_of op) fs e is g i.0 (omega (arith, i.1)) (subst (IsReady fs) (sym i.1) i.2)) (so_far-reduced (level_of op) fs e is)
follow_steps fs e is s None true h q g i =
    let t : ParserState = reduced loosest fs e is in
    close_steps (record { frames = fs; current = Some e; items = is }) loosest t.frames t.current t.items s (is_close-sign s q)
    (IsReduced-reduced loosest fs e is g i.0 (omega (arith, i.1)) (subst (IsReady fs) (sym i.1) i.2)) (so_far-reduced loosest fs e is)
follow_steps fs e is s None false h q g i = tt

by_current : (fs : List Frame) (c : Option Tree) (is : List PostfixItem) (m : Mark) → AreGrouped fs → OperandGrouped fs c → Steps (record { frames = fs; current = c; items = is }) m (step_by fs c is m)
by_current fs None is (Operand l) g h = record {
  spelled = so_far-settle fs (Single l) (Push l ∷ is) ∙ ap (λ x. x ++ Operand l ∷ []) (sym (append-nil (before fs)));
  sound = IsSound-settle fs (Single l) (Push l ∷ is) g tt refl;
}
by_current fs None is (Signed s) g h = open_steps fs is s _ _ refl refl g
by_current fs None is Stray g h = tt
by_current fs (Some e) is (Operand l) g h = tt
by_current fs (Some e) is (Signed s) g h = follow_steps fs e is s _ _ refl refl g h
by_current fs (Some e) is Stray g h = tt

-- a step reads its token
pub step_steps : (s : ParserState) (m : Mark) → IsSound s → Steps s m (step s m)
step_steps s m g = by_current s.frames s.current s.items m g.0 g.1

whole_sound : (n : ℕ) (gs : List Frame) (c : Option Tree) (js : List PostfixItem) (f : Found) (ms : List Mark) → ReducedBy n gs c → before gs ++ operand_marks c ≡ ms → whole_by gs c js ≡ Some f → (spelling f.tree ≡ ms) × IsGrouped f.tree
whole_sound n [] None js f ms r e h = absurd r
whole_sound n [] (Some x) js f ms r e h =
    let same = ap (λ (g : Found). g.tree) (some_same (let g : Found = record { tree = x; items = js } in g) f h) in
    (ap spelling (sym same) ∙ e, subst IsGrouped same r.1)
whole_sound n (g ∷ gs) None js f ms r e h = cc
whole_sound n (g ∷ gs) (Some x) js f ms r e h = cc

ended : (fs : List Frame) (c : Option Tree) (is : List PostfixItem) (f : Found) → AreGrouped fs → OperandGrouped fs c → finished_by fs c is ≡ Some f → (spelling f.tree ≡ (before fs ++ operand_marks c) ++ []) × IsGrouped f.tree
ended fs None is f g i h = cc
ended fs (Some e) is f g i h =
    let t : ParserState = reduced loosest fs e is in
    let r = whole_sound loosest t.frames t.current t.items f (before fs ++ spelling e)
    (IsReduced-reduced loosest fs e is g i.0 (omega (arith, i.1)) (subst (IsReady fs) (sym i.1) i.2)) (so_far-reduced loosest fs e is) h in
    (r.0 ∙ sym (append-nil (before fs ++ spelling e)), r.1)

-- after the first token, by what is read of the others
behind : (ms : List Mark) (s : ParserState) (m : Mark) (o : Option ParserState) (f : Found) → ((t : ParserState) → IsSound t → run ms t ≡ Some f → (spelling f.tree ≡ so_far t ++ ms) × IsGrouped f.tree) → Steps s m o → option_and_then (run ms) o ≡ Some f → (spelling f.tree ≡ so_far s ++ m ∷ ms) × IsGrouped f.tree
behind ms s m None f more g h = cc
behind ms s m (Some t) f more g h =
    let r = more t g.sound h in
    (r.0 ∙ ap (λ x. x ++ ms) g.spelled ∙ append_assoc (so_far s) (m ∷ []) ms, r.1)

-- what is found at the end of all tokens is their tree
pub run_sound : (ms : List Mark) (s : ParserState) (f : Found) → IsSound s → run ms s ≡ Some f → (spelling f.tree ≡ so_far s ++ ms) × IsGrouped f.tree
run_sound [] s f g h = ended s.frames s.current s.items f g.0 g.1 h
run_sound (m ∷ ms) s f g h = behind ms s m (step s m) f (λ t. run_sound ms t f) (step_steps s m g) h
