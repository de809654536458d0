-- Where operators act as they are written, what is read is spelled so, and each operator takes what is before it.
use Rattle.std.proofs.Common.{◌≡◌, ℕ, Bool, true, false, nat_le, List, [], ◌∷◌, ◌++◌, Option, Some, None, refl, sym, ap, subst, ◌∙◌, append_assoc}
use Rattle.std.specs.Option.{option_and_then, option_map}
use Rattle.std.proofs.lemmas.List.{append-nil}
use Rattle.std.proofs.lemmas.Bool.{false≢true, cond_both, le-leb}
use Rattle.c25_meaning_language.specs.declared.line.Sign.{Sign}
use Rattle.c25_meaning_language.specs.declared.line.Sign.TheVariants as sign
use Rattle.c25_meaning_language.specs.declared.expression.BinaryOperator.{BinaryOperator}
use Rattle.c25_meaning_language.specs.declared.expression.UnaryOperator.{UnaryOperator}
use Rattle.c25_meaning_language.specs.Tree.{Tree, Single, Group, Unary, Binary, Mark, Operand, Signed, Stray, level_of, level, spelling, binary_sign, unary_sign}
use Rattle.c25_meaning_language.specs.Reading as reading
use Rattle.c25_meaning_language.specs.Reading.{PostfixItem, Push, Wrap, Apply, Combine, Frame, Open, Pending, After, ParserState, Found, settle, reduced, loosest, operand_begun, waiting_by, closed_by, finished_by, whole_by, unary_of, binary_of, is_open, is_close}
use Rattle.c25_expr.proofs.Sound.{before, operand_marks, so_far, unary_of-sign, binary_of-sign, level_loosest}
use Rattle.c25_old_expressions.specs.declared.order.Order.TheVariants.{AsWritten}
use Rattle.c25_old_expressions.specs.OldReading.{followed, old_tree, run, step, step_by}
use Rattle.c25_old_expressions.specs.Laws.{IsAsWritten, IsLeftToRight}

-- no operator before an operand is open right before
abbrev IsReady : List Frame → Type 0
IsReady [] = Unit {0}
IsReady (Open ∷ fs) = Unit {0}
IsReady (Pending op ∷ fs) = ⊥
IsReady (After l op ∷ fs) = Unit {0}

-- no operator is open right before
abbrev pub IsFree : List Frame → Type 0
IsFree [] = Unit {0}
IsFree (Open ∷ fs) = Unit {0}
IsFree (Pending op ∷ fs) = ⊥
IsFree (After l op ∷ fs) = ⊥

-- each tree in the frames is as written
abbrev AreLeft : List Frame → Type 0
AreLeft [] = Unit {0}
AreLeft (Open ∷ fs) = AreLeft fs
AreLeft (Pending op ∷ fs) = AreLeft fs
AreLeft (After l op ∷ fs) = IsAsWritten l × IsFree fs × AreLeft fs

-- the operand after the frames is as written, and the operators before it may take it
abbrev OperandLeft : List Frame → Option Tree → Type 0
OperandLeft fs None = Unit {0}
OperandLeft fs (Some e) = IsAsWritten e × (level e ≡ 0) × IsReady fs

-- each tree of a state is as written
abbrev IsSound : ParserState → Type 0
IsSound s = AreLeft s.frames × OperandLeft s.frames s.current

so_far-settle : (fs : List Frame) (e : Tree) (is : List PostfixItem) → so_far (settle fs e is) ≡ before fs ++ spelling e
so_far-settle [] e is = refl
so_far-settle (Open ∷ fs) e is = refl
so_far-settle (Pending op ∷ fs) e is = so_far-settle fs (Unary op e) (Apply op ∷ is) ∙ sym (append_assoc (before fs) (Signed (unary_sign op) ∷ []) (spelling e))
so_far-settle (After l op ∷ fs) e is = refl

IsSound-settle : (fs : List Frame) (e : Tree) (is : List PostfixItem) → AreLeft fs → IsAsWritten e → level e ≡ 0 → IsSound (settle fs e is)
IsSound-settle [] e is g h z = (tt, (h, z, tt))
IsSound-settle (Open ∷ fs) e is g h z = (g, (h, z, tt))
IsSound-settle (Pending op ∷ fs) e is g h z = IsSound-settle fs (Unary op e) (Apply op ∷ is) g (z, h) refl
IsSound-settle (After l op ∷ fs) e is g h z = (g, (h, z, tt))

so_far-reduced : (n : ℕ) (fs : List Frame) (e : Tree) (is : List PostfixItem) → so_far (reduced n fs e is) ≡ before fs ++ spelling e
so_far-reduced n [] e is = refl
so_far-reduced n (Open ∷ fs) e is = refl
so_far-reduced n (Pending op ∷ fs) e is = refl
so_far-reduced n (After l op ∷ fs) e is = cond_both (nat_le (level_of op) n) (reduced n fs (Binary op l e) (Combine op ∷ is)) (record { frames = After l op ∷ fs; current = Some e; items = is })
    (λ (s : ParserState). so_far s ≡ before (After l op ∷ fs) ++ spelling e)
    (λ _. so_far-reduced n fs (Binary op l e) (Combine op ∷ is)
    ∙ ap (λ m. before fs ++ m) (sym (append_assoc (spelling l) (Signed (binary_sign op) ∷ []) (spelling e)))
    ∙ sym (append_assoc (before fs) (spelling l ++ Signed (binary_sign op) ∷ []) (spelling e)))
    (λ _. refl)

-- what is left where all operators have taken the operand
abbrev ReducedBy : List Frame → Option Tree → Type 0
ReducedBy fs None = ⊥
ReducedBy fs (Some e) = AreLeft fs × IsAsWritten e × IsFree fs

abbrev IsReduced : ParserState → Type 0
IsReduced s = ReducedBy s.frames s.current

IsReduced-free : (fs : List Frame) (e : Tree) (is : List PostfixItem) → AreLeft fs → IsFree fs → IsAsWritten e → IsReduced (reduced loosest fs e is)
IsReduced-free [] e is g r h = (tt, h, tt)
IsReduced-free (Open ∷ fs) e is g r h = (g, h, tt)
IsReduced-free (Pending op ∷ fs) e is g r h = absurd r
IsReduced-free (After x op ∷ fs) e is g r h = absurd r

IsReduced-reduced : (fs : List Frame) (e : Tree) (is : List PostfixItem) → AreLeft fs → OperandLeft fs (Some e) → IsReduced (reduced loosest fs e is)
IsReduced-reduced [] e is g h = (tt, h.0, tt)
IsReduced-reduced (Open ∷ fs) e is g h = (g, h.0, tt)
IsReduced-reduced (Pending op ∷ fs) e is g h = absurd h.2
IsReduced-reduced (After x op ∷ fs) e is g h = cond_both (nat_le (level_of op) loosest) (reduced loosest fs (Binary op x e) (Combine op ∷ is)) (record { frames = After x op ∷ fs; current = Some e; items = is })
    IsReduced
    (λ yes. IsReduced-free fs (Binary op x e) (Combine op ∷ is) g.2 g.1 (h.1, g.0, h.0))
    (λ no. absurd (false≢true (sym no ∙ le-leb (level_of op) loosest (level_loosest op))))

-- what a step gives
record Stepped (s t : ParserState) (m : Mark) : Type 0 where
  spelled : so_far t ≡ so_far s ++ m ∷ []
  sound : IsSound t

-- after a step, if there is one
abbrev Steps : ParserState → Mark → Option ParserState → Type 0
Steps s m None = Unit {0}
Steps s m (Some t) = Stepped s t m

some_same : {A : Type 0} (x y : A) → Some x ≡ Some y → x ≡ y
some_same x y h = cc

is_open-sign : (s : Sign) → is_open s ≡ true → s ≡ sign.OpenParenthesis
is_open-sign sign.OpenParenthesis h = refl
is_open-sign _ h = absurd (false≢true h)

is_close-sign : (s : Sign) → is_close s ≡ true → s ≡ sign.CloseParenthesis
is_close-sign sign.CloseParenthesis h = refl
is_close-sign _ h = absurd (false≢true h)

spelled_none : (ms : List Mark) (t s : Sign) → t ≡ s → (ms ++ Signed t ∷ []) ++ [] ≡ (ms ++ []) ++ Signed s ∷ []
spelled_none ms t s h = append-nil _ ∙ ap (λ x. ms ++ Signed x ∷ []) h ∙ ap (λ x. x ++ Signed s ∷ []) (sym (append-nil ms))

regroup : (xs : List Mark) (a : Mark) (ys : List Mark) (b : Mark) → xs ++ (a ∷ (ys ++ b ∷ [])) ≡ ((xs ++ a ∷ []) ++ ys) ++ b ∷ []
regroup xs a ys b = simp append_assoc

open_steps : (fs : List Frame) (is : List PostfixItem) (s : Sign) (o : Option UnaryOperator) (b : Bool) → unary_of s ≡ o → is_open s ≡ b → AreLeft fs → Steps (record { frames = fs; current = None; items = is }) (Signed s) (operand_begun fs is o b)
open_steps fs is s (Some op) b h q g = record { spelled = spelled_none (before fs) (unary_sign op) s (sym (unary_of-sign s op h)); sound = (g, tt) }
open_steps fs is s None true h q g = record { spelled = spelled_none (before fs) sign.OpenParenthesis s (sym (is_open-sign s q)); sound = (g, tt) }
open_steps fs is s None false h q g = tt

-- an operator waits after what is left
wait_steps : (s : ParserState) (gs : List Frame) (c : Option Tree) (js : List PostfixItem) (o : Sign) (op : BinaryOperator) → o ≡ binary_sign op → ReducedBy gs c → before gs ++ operand_marks c ≡ so_far s → Stepped s (waiting_by op gs c js) (Signed o)
wait_steps s gs None js o op q r e = absurd r
wait_steps s gs (Some x) js o op q r e = record {
  spelled = append-nil _ ∙ sym (append_assoc (before gs) (spelling x) (Signed (binary_sign op) ∷ [])) ∙ ap (λ m. m ++ Signed (binary_sign op) ∷ []) e ∙ ap (λ t. so_far s ++ Signed t ∷ []) (sym q);
  sound = ((r.1, r.2, r.0), tt);
}

-- a group ends after what is left
close_steps : (s : ParserState) (gs : List Frame) (c : Option Tree) (js : List PostfixItem) (o : Sign) → o ≡ sign.CloseParenthesis → ReducedBy gs c → before gs ++ operand_marks c ≡ so_far s → Steps s (Signed o) (closed_by gs c js)
close_steps s [] None js o q r e = tt
close_steps s [] (Some x) js o q r e = tt
close_steps s (Pending op ∷ gs) None js o q r e = tt
close_steps s (Pending op ∷ gs) (Some x) js o q r e = tt
close_steps s (After l op ∷ gs) None js o q r e = tt
close_steps s (After l op ∷ gs) (Some x) js o q r e = tt
close_steps s (Open ∷ gs) None js o q r e = tt
close_steps s (Open ∷ gs) (Some x) js o q r e = record {
  spelled = so_far-settle gs (Group x) (Wrap ∷ js)
      ∙ regroup (before gs) (Signed sign.OpenParenthesis) (spelling x) (Signed sign.CloseParenthesis)
      ∙ ap (λ m. m ++ Signed sign.CloseParenthesis ∷ []) e ∙ ap (λ t. so_far s ++ Signed t ∷ []) (sym q);
  sound = IsSound-settle gs (Group x) (Wrap ∷ js) r.0 r.1 refl;
}

follow_steps : (fs : List Frame) (e : Tree) (is : List PostfixItem) (s : Sign) (o : Option BinaryOperator) (b : Bool) → binary_of s ≡ o → is_close s ≡ b → AreLeft fs → OperandLeft fs (Some e)
    → Steps (record { frames = fs; current = Some e; items = is }) (Signed s) (followed AsWritten fs e is o b)
follow_steps fs e is s (Some op) b h q g i =
    let t : ParserState = reduced loosest fs e is in
    wait_steps (record { frames = fs; current = Some e; items = is }) t.frames t.current t.items s op (binary_of-sign s op h) (IsReduced-reduced fs e is g i) (so_far-reduced loosest fs e is)
follow_steps fs e is s None true h q g i =
    let t : ParserState = reduced loosest fs e is in
    close_steps (record { frames = fs; current = Some e; items = is }) t.frames t.current t.items s (is_close-sign s q) (IsReduced-reduced fs e is g i) (so_far-reduced loosest fs e is)
follow_steps fs e is s None false h q g i = tt

by_current : (fs : List Frame) (c : Option Tree) (is : List PostfixItem) (m : Mark) → AreLeft fs → OperandLeft fs c → Steps (record { frames = fs; current = c; items = is }) m (step_by AsWritten fs c is m)
by_current fs None is (Operand l) g h = record {
  spelled = so_far-settle fs (Single l) (Push l ∷ is) ∙ ap (λ x. x ++ Operand l ∷ []) (sym (append-nil (before fs)));
  sound = IsSound-settle fs (Single l) (Push l ∷ is) g tt refl;
}
by_current fs None is (Signed s) g h = open_steps fs is s _ _ refl refl g
by_current fs None is Stray g h = tt
by_current fs (Some e) is (Operand l) g h = tt
by_current fs (Some e) is (Signed s) g h = follow_steps fs e is s _ _ refl refl g h
by_current fs (Some e) is Stray g h = tt

whole_sound : (gs : List Frame) (c : Option Tree) (js : List PostfixItem) (f : Found) (ms : List Mark) → ReducedBy gs c → before gs ++ operand_marks c ≡ ms → whole_by gs c js ≡ Some f → (spelling f.tree ≡ ms) × IsAsWritten f.tree
whole_sound [] None js f ms r e h = absurd r
whole_sound [] (Some x) js f ms r e h =
    let same = ap (λ (g : Found). g.tree) (some_same (let g : Found = record { tree = x; items = js } in g) f h) in
    (ap spelling (sym same) ∙ e, subst IsAsWritten same r.1)
whole_sound (g ∷ gs) None js f ms r e h = cc
whole_sound (g ∷ gs) (Some x) js f ms r e h = cc

ended : (fs : List Frame) (c : Option Tree) (is : List PostfixItem) (f : Found) → AreLeft fs → OperandLeft fs c → finished_by fs c is ≡ Some f → (spelling f.tree ≡ (before fs ++ operand_marks c) ++ []) × IsAsWritten f.tree
ended fs None is f g i h = cc
ended fs (Some e) is f g i h =
    let t : ParserState = reduced loosest fs e is in
    let r = whole_sound t.frames t.current t.items f (before fs ++ spelling e) (IsReduced-reduced fs e is g i) (so_far-reduced loosest fs e is) h in
    (r.0 ∙ sym (append-nil (before fs ++ spelling e)), r.1)

-- after the first token, by what is read of the others
after : (ms : List Mark) (s : ParserState) (m : Mark) (o : Option ParserState) (f : Found) → ((t : ParserState) → IsSound t → run AsWritten ms t ≡ Some f → (spelling f.tree ≡ so_far t ++ ms) × IsAsWritten f.tree) → Steps s m o → option_and_then (run AsWritten ms) o ≡ Some f → (spelling f.tree ≡ so_far s ++ m ∷ ms) × IsAsWritten f.tree
after ms s m None f more g h = cc
after ms s m (Some t) f more g h =
    let r = more t g.sound h in
    (r.0 ∙ ap (λ x. x ++ ms) g.spelled ∙ append_assoc (so_far s) (m ∷ []) ms, r.1)

run_sound : (ms : List Mark) (s : ParserState) (f : Found) → IsSound s → run AsWritten ms s ≡ Some f → (spelling f.tree ≡ so_far s ++ ms) × IsAsWritten f.tree
run_sound [] s f g h = ended s.frames s.current s.items f g.0 g.1 h
run_sound (m ∷ ms) s f g h = after ms s m (step AsWritten s m) f (λ t. run_sound ms t f) (by_current s.frames s.current s.items m g.0 g.1) h

found_left : (ms : List Mark) (o : Option Found) (e : Tree) → run AsWritten ms reading.start ≡ o → option_map (λ (f : Found). f.tree) o ≡ Some e → IsLeftToRight ms e
found_left ms None e is h = absurd (cc)
found_left ms (Some f) e is h =
    let r = run_sound ms reading.start f (tt, tt) is in
    subst (IsLeftToRight ms) (some_same f.tree e h) (record { spelled = r.0; as_written = r.1 })

-- the tree has the tokens from left to right, and is as written
pub left_to_right : (ms : List Mark) (e : Tree) → old_tree AsWritten ms ≡ Some e → IsLeftToRight ms e
left_to_right ms e h = found_left ms (run AsWritten ms reading.start) e refl h
